-- A value that does not fit the outline of a line is a `Form` error.
use Rattle.std.proofs.Common.{◌≡◌, ◌^◌, true, false, Err, refl}
use Rattle.std.specs.Prelude.{ℕ, List, [], bytes_eq, codes, Result, Ok}
use Rattle.serde_json.specs.Data.{Data, array, no_items, item}
use Rattle.causal_name.specs.declared.Pid.{Pid}
use Rattle.causal_name.specs.declared.Det.{Det}
use Rattle.causal_trace.specs.declared.entry.Entry.{Entry}
use Rattle.causal_trace.specs.declared.entry.Entry.TheVariants.{Restart, Forget}
use Rattle.causal_line.specs.declared.kind.TextKind.{TextKind}
use Rattle.causal_line.specs.declared.kind.TextKind.TheVariants.{Form}
use Rattle.causal_line.specs.declared.parsed_line.ParsedLine.{ParsedLine}
use Rattle.causal_line.specs.declared.parsed_line.ParsedLine.TheVariants as parsed
use Rattle.causal_line.specs.Reading.{◌>>=◌}
use Rattle.causal_line.specs.ParsedLines.{pid_at, u32_at, parse_det, dets_at, is_array_named, parse_header, parse_send, parse_deliver, parse_stable, parse_crash, parse_restart, parse_forget, end_of, parse_value}
use Rattle.causal_line.specs.Prescan.{levels, value_fits}
use Rattle.causal_line.proofs.Lemmas.Unfit.{process_or, number_or, last_false, stops, number_bad, pid_bad, det_bad, dets_bad, of_line, fields, either}

-- a line of one field after its name, if the parser refuses a field that does not fit
one_bad : (name : List ℕ) (parse : Data → Result ParsedLine TextKind) (d : Data) → bytes_eq [] name ≡ false → ((a b : Data) → value_fits 2 b ≡ false → parse (array (item a (item b no_items))) ≡ Err Form)
    → value_fits levels d ≡ false → is_array_named d name 2 ≡ true → parse d ≡ Err Form
one_bad name parse d none refuses h is =
    of_line 1 name (λ x. parse x ≡ Err Form) d h is (λ a b bad begun. refuses a b (last_false (value_fits 2 b) true refl (fields name a _ none bad begun)))

header_bad : (d : Data) → value_fits levels d ≡ false → is_array_named d (codes "trace") 3 ≡ true → parse_header d ≡ Err Form
unfolding parse_header
header_bad d h is = of_line 2 (codes "trace") (λ x. parse_header x ≡ Err Form) d h is (λ a b c bad name.
    let l : Data = array (item a (item b (item c no_items))) in
    number_or 1 l b _ _ refl (fields (codes "trace") a _ refl bad name) (λ more version.
    stops (u32_at 2 l) _ (number_bad (2 ^ 32) 2 2 l c refl (last_false (value_fits 2 c) true refl more))))

-- a process and a list of determinants, whatever they contain
listing_bad : (name : List ℕ) (say : Pid → List Det → Entry) (d : Data) → bytes_eq [] name ≡ false → value_fits levels d ≡ false → is_array_named d name 3 ≡ true
    → (pid_at 1 d >>= λ who. dets_at 2 d >>= λ listed. Ok (parsed.Entry (say who listed))) ≡ Err Form
listing_bad name say d none h is = of_line 2 name (λ x. (pid_at 1 x >>= λ who. dets_at 2 x >>= λ listed. Ok (parsed.Entry (say who listed))) ≡ Err Form) d h is (λ a b c bad begun.
    let l : Data = array (item a (item b (item c no_items))) in
    process_or 1 l b _ _ refl (fields name a _ none bad begun) (λ more who.
    stops (dets_at 2 l) _ (dets_bad 2 l c refl (last_false (value_fits 2 c) true refl more))))

send_bad : (d : Data) → value_fits levels d ≡ false → is_array_named d (codes "send") 4 ≡ true → parse_send d ≡ Err Form
unfolding parse_send
send_bad d h is = of_line 3 (codes "send") (λ x. parse_send x ≡ Err Form) d h is (λ a b c e bad name.
    let l : Data = array (item a (item b (item c (item e no_items)))) in
    process_or 1 l b _ _ refl (fields (codes "send") a _ refl bad name) (λ more from.
    process_or 2 l c _ _ refl more (λ last to. stops (u32_at 3 l) _ (number_bad (2 ^ 32) 2 3 l e refl (last_false (value_fits 2 e) true refl last)))))

deliver_bad : (d : Data) → value_fits levels d ≡ false → is_array_named d (codes "deliver") 5 ≡ true → parse_deliver d ≡ Err Form
unfolding parse_deliver
deliver_bad d h is = of_line 4 (codes "deliver") (λ x. parse_deliver x ≡ Err Form) d h is (λ a b c e x bad name.
    let l : Data = array (item a (item b (item c (item e (item x no_items))))) in
    process_or 1 l b _ _ refl (fields (codes "deliver") a _ refl bad name) (λ h2 to.
    number_or 2 l c _ _ refl h2 (λ h3 send. number_or 3 l e _ _ refl h3 (λ h4 rsn. stops (dets_at 4 l) _ (dets_bad 4 l x refl (last_false (value_fits 2 x) true refl h4))))))

-- a value that does not fit the outline of a line is a `Form` error
pub no_shape : (d : Data) → value_fits levels d ≡ false → parse_value d ≡ Err Form
unfolding parse_value parse_stable parse_crash parse_restart parse_forget end_of
no_shape d h =
    either _ _ _ (header_bad d h) (either _ _ _ (send_bad d h) (either _ _ _ (deliver_bad d h)
    (either _ _ _ (one_bad (codes "stable") parse_stable d refl (λ a b bad. stops (parse_det b) _ (det_bad 2 b refl bad)) h)
    (either _ _ _ (one_bad (codes "crash") parse_crash d refl (λ a b bad. let l = array (item a (item b no_items)) in stops (pid_at 1 l) _ (pid_bad 2 1 l b refl bad)) h)
    (either _ _ _ (listing_bad (codes "restart") Restart d refl h) (either _ _ _ (listing_bad (codes "forget") Forget d refl h)
    (either _ _ _ (one_bad (codes "end") end_of d refl (λ a b bad. let l = array (item a (item b no_items)) in stops (u32_at 1 l) _ (number_bad (2 ^ 32) 2 1 l b refl bad)) h) refl)))))))
