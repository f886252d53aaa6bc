pub mod WholeSearch
