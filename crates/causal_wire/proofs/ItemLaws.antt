-- Items, log entries and views that are read have the bytes that are written of them, and what is written is read back.
use Rattle.std.proofs.Common.{◌≡◌, ℕ, ◌<◌, ◌≤◌, ◌^◌, Bool, true, false, cond, List, ◌++◌, length, Option, None, Result, Ok, Err, refl, sym, ap, subst, ◌∙◌, append_assoc}
use Rattle.std.specs.Int.{w32}
use Rattle.std.specs.Ordering.{nat_cmp}
use Rattle.std.specs.FinSet as set
use Rattle.causal_holders.specs.Members.{ascending}
use Rattle.causal_name.specs.declared.Det.{Det}
use Rattle.causal_wire.specs.declared.fault.WireFault.{WireFault}
use Rattle.causal_wire.specs.declared.fault.WireFault.TheVariants as faults
use Rattle.causal_wire.specs.declared.parcel.ParcelItem.{ParcelItem}
use Rattle.causal_wire.specs.declared.parcel.LogEntry.{LogEntry}
use Rattle.causal_wire.specs.Parcels.{IsDet, AreOthers, IsItem, AreItems, AreEntries, IsView}
use Rattle.causal_wire.specs.Bytes.{byte, number_bytes, det_bytes, others_bytes, item_bytes, flag_byte, entry_bytes, list_bytes, view_bytes}
use Rattle.causal_wire.specs.Reading.{◌>>=◌, read_det, read_short_list, others_of, follows, parcel_item, read_det_and_listed, read_item, read_flag, read_entry, read_items, read_entries, item_det, entry_det, nothing, read_next_number, read_view}
use Rattle.causal_wire.proofs.FieldLaws.{IsBytes, bind_ok, ok_is, Takes, Takes-then, wide32, number_takes, number_again, det_takes, det_again, short_list_takes, short_list_again, flag_takes, flag_again}
use Rattle.causal_wire.proofs.ListLaws.{FitsAfter, list_takes, list_again, counted_takes, counted_again, chain_each, chain_ascends, chain_from, plain_each, plain_chain}
use Rattle.causal_wire.proofs.Members.{others_take, others_again}

-- a determinant and the bytes of its listed holders that were read
record IsPairRead (n : ℕ) (bytes : List ℕ) (x : Det × List ℕ × List ℕ) : Type 0 where
  takes : Takes bytes (det_bytes x.0 ++ (byte (length x.1) ++ x.1)) x.2
  det : IsDet n x.0
  listed : IsBytes x.1

pair_takes : (n : ℕ) (bytes : List ℕ) (x : Det × List ℕ × List ℕ) → IsBytes bytes → read_det_and_listed n bytes ≡ Ok x → IsPairRead n bytes x
unfolding read_det_and_listed
pair_takes n bytes x fits e =
    let a = bind_ok (read_det n bytes) (λ det. read_short_list det.1 >>= λ listed. Ok (det.0, listed.0, listed.1)) x e in
    let b = bind_ok (read_short_list a.0.1) (λ listed. Ok (a.0.0, listed.0, listed.1)) x a.2 in
    let t = det_takes n bytes a.0 fits a.1 in
    let u = short_list_takes a.0.1 b.0 t.0.rest_fits b.1 in
    let both = Takes-then bytes (det_bytes a.0.0) a.0.1 (byte (length b.0.0) ++ b.0.0) b.0.1 t.0 u.0 in
    let made : Det × List ℕ × List ℕ = (a.0.0, b.0.0, b.0.1) in
    subst (IsPairRead n bytes) (ok_is made x b.2) (record { takes = both; det = t.1; listed = u.1 })

-- what an item is made of
record IsMade (n source : ℕ) (last : Option Det) (d : Det) (listed : List ℕ) (item : ParcelItem) : Type 0 where
  det : d ≡ item.det
  follows_last : follows last d ≡ true
  listed_is : listed ≡ ascending item.others
  others : AreOthers n source item.others

item_made : (n source : ℕ) (last : Option Det) (d : Det) (listed : List ℕ) (item : ParcelItem) → IsBytes listed → parcel_item n source last d listed ≡ Ok item → IsMade n source last d listed item
unfolding parcel_item
item_made n source last d listed item fits e =
    elim (follows last d) as (λ b. follows last d ≡ b → cond b (others_of n source listed >>= λ others. Ok (record { det = d; others = others })) (Err faults.Unsorted) ≡ Ok item → IsMade n source last d listed item) [
      | true ↦ λ passed k.
          let o = bind_ok (others_of n source listed) (λ others. Ok (record { det = d; others = others })) item k in
          let s = others_take n source listed o.0 fits o.1 in
          let made : ParcelItem = record { det = d; others = o.0 } in
          subst (IsMade n source last d listed) (ok_is made item o.2) (record { det = refl; follows_last = passed; listed_is = sym s.0; others = s.1 })
      | false ↦ λ _ k. absurd cc
    ] refl e

abbrev det_of : ParcelItem → Det
det_of item = item.det

abbrev entry_det_of : LogEntry → Det
entry_det_of entry = entry.item.det

abbrev entry_is_item : ℕ → ℕ → LogEntry → Type 0
entry_is_item n source entry = IsItem n source entry.item

item_takes : (n source : ℕ) (last : Option Det) (bytes : List ℕ) (x : ParcelItem × List ℕ) → IsBytes bytes → read_item n source last bytes ≡ Ok x → Takes bytes (item_bytes x.0) x.1 × FitsAfter det_of (IsItem n source) last x.0
unfolding read_item
item_takes n source last bytes x fits e =
    let a = bind_ok (read_det_and_listed n bytes) (λ d. parcel_item n source last d.0 d.1 >>= λ item. Ok (item, d.2)) x e in
    let b = bind_ok (parcel_item n source last a.0.0 a.0.1) (λ item. Ok (item, a.0.2)) x a.2 in
    let t = pair_takes n bytes a.0 fits a.1 in
    let m = item_made n source last a.0.0 a.0.1 b.0 t.listed b.1 in
    let text : det_bytes a.0.0 ++ (byte (length a.0.1) ++ a.0.1) ≡ item_bytes b.0 = λ i. det_bytes (m.det i) ++ (byte (length (m.listed_is i)) ++ m.listed_is i) in
    let made : ParcelItem × List ℕ = (b.0, a.0.2) in
    subst (λ (y : ParcelItem × List ℕ). Takes bytes (item_bytes y.0) y.1 × FitsAfter det_of (IsItem n source) last y.0) (ok_is made x b.2)
    (subst (λ (w : List ℕ). Takes bytes w a.0.2) text t.takes, (subst (λ (d : Det). follows last d ≡ true) m.det m.follows_last, record { det = subst (IsDet n) m.det t.det; others = m.others }))

pair_again : (n : ℕ) (item : ParcelItem) (rest : List ℕ) → IsDet n item.det → read_det_and_listed n (item_bytes item ++ rest) ≡ Ok (item.det, ascending item.others, rest)
unfolding read_det_and_listed
pair_again n item rest fits =
    ap (read_det_and_listed n) (append_assoc (det_bytes item.det) (others_bytes item.others) rest)
    ∙ ap (λ (r : Result (Det × List ℕ) WireFault). r >>= λ det. read_short_list det.1 >>= λ listed. Ok (det.0, listed.0, listed.1)) (det_again n item.det (others_bytes item.others ++ rest) fits)
    ∙ ap (λ (r : Result (List ℕ × List ℕ) WireFault). r >>= λ listed. Ok (item.det, listed.0, listed.1)) (short_list_again (ascending item.others) rest)

made_again : (n source : ℕ) → n ≤ 256 → (last : Option Det) (item : ParcelItem) → FitsAfter det_of (IsItem n source) last item → parcel_item n source last item.det (ascending item.others) ≡ Ok item
unfolding parcel_item
made_again n source few last item fits =
    ap (λ (b : Bool). cond b (others_of n source (ascending item.others) >>= λ others. Ok (record { det = item.det; others = others })) (Err faults.Unsorted)) fits.0
    ∙ ap (λ (r : Result (set.FinSet nat_cmp) WireFault). r >>= λ others. Ok (record { det = item.det; others = others })) (others_again n source item.others few fits.1.others)

item_again : (n source : ℕ) → n ≤ 256 → (last : Option Det) (item : ParcelItem) (rest : List ℕ) → FitsAfter det_of (IsItem n source) last item → read_item n source last (item_bytes item ++ rest) ≡ Ok (item, rest)
unfolding read_item
item_again n source few last item rest fits =
    ap (λ (r : Result (Det × List ℕ × List ℕ) WireFault). r >>= λ d. parcel_item n source last d.0 d.1 >>= λ item. Ok (item, d.2)) (pair_again n item rest fits.1.det)
    ∙ ap (λ (r : Result ParcelItem WireFault). r >>= λ item. Ok (item, rest)) (made_again n source few last item fits)

entry_takes : (n source : ℕ) (last : Option Det) (bytes : List ℕ) (x : LogEntry × List ℕ) → IsBytes bytes → read_entry n source last bytes ≡ Ok x → Takes bytes (entry_bytes x.0) x.1 × FitsAfter entry_det_of (entry_is_item n source) last x.0
unfolding read_entry
entry_takes n source last bytes x fits e =
    let a = bind_ok (read_item n source last bytes) (λ item. read_flag item.1 >>= λ stable. Ok (record { item = item.0; stable = stable.0 }, stable.1)) x e in
    let b = bind_ok (read_flag a.0.1) (λ stable. Ok (record { item = a.0.0; stable = stable.0 }, stable.1)) x a.2 in
    let t = item_takes n source last bytes a.0 fits a.1 in
    let u = flag_takes a.0.1 b.0 t.0.rest_fits b.1 in
    let both = Takes-then bytes (item_bytes a.0.0) a.0.1 (byte (flag_byte b.0.0)) b.0.1 t.0 u in
    let made : LogEntry × List ℕ = (record { item = a.0.0; stable = b.0.0 }, b.0.1) in
    subst (λ (y : LogEntry × List ℕ). Takes bytes (entry_bytes y.0) y.1 × FitsAfter entry_det_of (entry_is_item n source) last y.0) (ok_is made x b.2) (both, t.1)

entry_again : (n source : ℕ) → n ≤ 256 → (last : Option Det) (entry : LogEntry) (rest : List ℕ) → FitsAfter entry_det_of (entry_is_item n source) last entry → read_entry n source last (entry_bytes entry ++ rest) ≡ Ok (entry, rest)
unfolding read_entry
entry_again n source few last entry rest fits =
    ap (read_entry n source last) (append_assoc (item_bytes entry.item) (byte (flag_byte entry.stable)) rest)
    ∙ rw (item_again n source few last entry.item (byte (flag_byte entry.stable) ++ rest) fits, flag_again entry.stable rest) refl

-- ---- lists of them

pub items_take : (n source : ℕ) (bytes : List ℕ) (x : List ParcelItem × List ℕ) → IsBytes bytes → read_items n source bytes ≡ Ok x → Takes bytes (list_bytes item_bytes x.0) x.1 × AreItems n source x.0
unfolding read_items
items_take n source bytes x fits e =
    let t = counted_takes item_det (read_item n source) item_bytes (FitsAfter det_of (IsItem n source)) (item_takes n source) None bytes x fits e in
    (t.0, record { each = chain_each det_of (IsItem n source) None x.0 t.2; ascending = chain_ascends det_of (IsItem n source) x.0 t.2; count = t.1 })

pub items_again : (n source : ℕ) (items : List ParcelItem) (rest : List ℕ) → n ≤ 256 → AreItems n source items → read_items n source (list_bytes item_bytes items ++ rest) ≡ Ok (items, rest)
unfolding read_items
items_again n source items rest few fits =
    counted_again item_det (read_item n source) item_bytes (FitsAfter det_of (IsItem n source)) (item_again n source few) None items rest fits.count (chain_from det_of (IsItem n source) items fits.each fits.ascending)

pub entries_take : (n source : ℕ) (bytes : List ℕ) (x : List LogEntry × List ℕ) → IsBytes bytes → read_entries n source bytes ≡ Ok x → Takes bytes (list_bytes entry_bytes x.0) x.1 × AreEntries n source x.0
unfolding read_entries
entries_take n source bytes x fits e =
    let t = counted_takes entry_det (read_entry n source) entry_bytes (FitsAfter entry_det_of (entry_is_item n source)) (entry_takes n source) None bytes x fits e in
    (t.0, record { each = chain_each entry_det_of (entry_is_item n source) None x.0 t.2; ascending = chain_ascends entry_det_of (entry_is_item n source) x.0 t.2; count = t.1 })

pub entries_again : (n source : ℕ) (entries : List LogEntry) (rest : List ℕ) → n ≤ 256 → AreEntries n source entries → read_entries n source (list_bytes entry_bytes entries ++ rest) ≡ Ok (entries, rest)
unfolding read_entries
entries_again n source entries rest few fits =
    counted_again entry_det (read_entry n source) entry_bytes (FitsAfter entry_det_of (entry_is_item n source)) (entry_again n source few) None entries rest fits.count (chain_from entry_det_of (entry_is_item n source) entries fits.each fits.ascending)

abbrev is_number : ℕ → Type 0
is_number number = number < 2 ^ 32

pub view_takes : (n : ℕ) (bytes : List ℕ) (x : List ℕ × List ℕ) → IsBytes bytes → read_view n bytes ≡ Ok x → Takes bytes (view_bytes x.0) x.1 × IsView n x.0
view_takes n bytes x fits e =
    let t = list_takes nothing read_next_number (number_bytes w32) (λ _. is_number) (λ s bytes x fits e. number_takes w32 (2 ^ 32) wide32 bytes x fits e) tt n bytes x fits e in
    (t.takes, record { each = plain_each is_number nothing x.0 t.chain; count = t.count })

pub view_again : (n : ℕ) (view rest : List ℕ) → IsView n view → read_view n (view_bytes view ++ rest) ≡ Ok (view, rest)
view_again n view rest fits =
    subst (λ k. read_view k (view_bytes view ++ rest) ≡ Ok (view, rest)) fits.count
    (list_again nothing read_next_number (number_bytes w32) (λ _. is_number) (λ s number rest lt. number_again w32 (2 ^ 32) wide32 number rest lt) tt view rest (plain_chain is_number nothing view fits.each))
