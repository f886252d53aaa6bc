pub mod HolderLemmas
pub mod LogLemmas
pub mod SlotLemmas
pub mod NumberLemmas
pub mod RivalLemmas
pub mod SurvivorLemmas
pub mod RunLemmas
