-- A value that fails the scan for the outline of a line has none of the shapes of a recorder file's line.
use Rattle.std.proofs.Common.{arith, ◌≡◌, ℕ, ◌^◌, true, false, Err, refl, Result, Ok}
use Rattle.std.specs.Prelude.{◌&&◌, List, [], Bool, bytes_eq, codes, Some}
use Rattle.serde_json.specs.Data.{Data, array, no_items, item}
use Rattle.serde_json.specs.Find.{at}
use Rattle.causal_name.specs.declared.Det.{Det}
use Rattle.causal_line.specs.declared.kind.TextKind.TheVariants.{Form}
use Rattle.causal_line.specs.Reading.{◌>>=◌}
use Rattle.causal_line.specs.ParsedLines.{pid_at, u32_at, u64_at, parse_det, dets_at, is_array_named}
use Rattle.causal_line.specs.Prescan.{levels, value_fits}
use Rattle.causal_line.proofs.Lemmas.Unfit.{process_or, number_or, or_else, last_false, split, stops, after, chain, IsPlainly-or_form, IsPlainly-pid, IsPlainly-det, IsPlainly-dets, number_bad, u64_bad, pid_bad, det_bad, dets_bad, of_line, fields, either}
use Rattle.causal_merge.specs.declared.event.Action.{Action}
use Rattle.causal_merge.specs.declared.event.Action.TheVariants.{Crash, Restart, Forget}
use Rattle.causal_merge.specs.Shapes.{parse_recording_header, parse_event, parse_send_event, parse_deliver_event, parse_stable_event, parse_restart_event, parse_forget_event, heard_of, parse_recorder_value}
use Rattle.causal_line.specs.declared.kind.TextKind.{TextKind}

-- if the process or the clock of an event fails the scan, its form is refused
event_bad : (d b c : Data) (act : Action) → at 1 d ≡ Some b → at 2 d ≡ Some c → (value_fits 2 b && value_fits 2 c) ≡ false → parse_event d act ≡ Err Form
unfolding parse_event
event_bad d b c act first second h =
    chain (pid_at 1 d) _ (IsPlainly-pid 1 d) (or_else (value_fits 2 b) (value_fits 2 c) h (pid_bad 2 1 d b first) (λ h2 process. stops (u64_at 2 d) _ (u64_bad 2 2 d c second h2)))

-- either the process and the clock of an event fail the scan, or the rest does
event_or : {P : Type 0} (b c : Data) (rest : Bool) → (value_fits 2 b && (value_fits 2 c && rest)) ≡ false → ((value_fits 2 b && value_fits 2 c) ≡ false → P) → (rest ≡ false → P) → P
event_or {P} b c rest h event own = grind (arith, split (value_fits 2 b) (value_fits 2 c) rest h)

crash_bad : (d : Data) → value_fits levels d ≡ false → is_array_named d (codes "crash") 3 ≡ true → parse_event d Crash ≡ Err Form
crash_bad d h is = of_line 2 (codes "crash") (λ x. parse_event x Crash ≡ Err Form) d h is (λ a b c bad name.
    event_or b c true (fields (codes "crash") a _ refl bad name) (event_bad (array (item a (item b (item c no_items)))) b c Crash refl refl) (λ none. absurd (let no : true ≡ false = none in cc)))

stable_bad : (d : Data) → value_fits levels d ≡ false → is_array_named d (codes "stable") 4 ≡ true → parse_stable_event d ≡ Err Form
unfolding parse_stable_event
stable_bad d h is = of_line 3 (codes "stable") (λ x. parse_stable_event x ≡ Err Form) d h is (λ a b c e bad name.
    event_or b c _ (fields (codes "stable") a _ refl bad name)
    (λ event. after (parse_det e) _ (IsPlainly-det e) (λ det. event_bad (array (item a (item b (item c (item e no_items))))) b c _ refl refl event))
    (λ own. stops (parse_det e) _ (det_bad 2 e refl (last_false (value_fits 2 e) true refl own))))

-- an event that lists determinants and fails the scan is refused for its form
listing_bad : (name : List ℕ) (act : List Det → Action) (d : Data) → bytes_eq [] name ≡ false → value_fits levels d ≡ false → is_array_named d name 4 ≡ true → (dets_at 3 d >>= λ listed. parse_event d (act listed)) ≡ Err Form
listing_bad name act d none h is = of_line 3 name (λ x. (dets_at 3 x >>= λ listed. parse_event x (act listed)) ≡ Err Form) d h is (λ a b c e bad begun.
    let l : Data = array (item a (item b (item c (item e no_items)))) in
    event_or b c _ (fields name a _ none bad begun)
    (λ event. after (dets_at 3 l) _ (IsPlainly-dets 3 l) (λ listed. event_bad l b c _ refl refl event))
    (λ own. stops (dets_at 3 l) _ (dets_bad 3 l e refl (last_false (value_fits 2 e) true refl own))))

header_bad : (d : Data) → value_fits levels d ≡ false → is_array_named d (codes "recording") 5 ≡ true → parse_recording_header d ≡ Err Form
unfolding parse_recording_header
header_bad d h is = of_line 4 (codes "recording") (λ x. parse_recording_header x ≡ Err Form) d h is (λ a b c e x bad name.
    let l : Data = array (item a (item b (item c (item e (item x no_items))))) in
    process_or 1 l b _ _ refl (fields (codes "recording") a _ refl bad name) (λ h2 process. number_or 2 l c _ _ refl h2 (λ h3 version. number_or 3 l e _ _ refl h3 (λ h4 processes.
    stops (u64_at 4 l) _ (u64_bad 2 4 l x refl (last_false (value_fits 2 x) true refl h4))))))

heard_bad : (d : Data) → value_fits levels d ≡ false → is_array_named d (codes "heard") 5 ≡ true → heard_of d ≡ Err Form
unfolding heard_of
heard_bad d h is = of_line 4 (codes "heard") (λ x. heard_of x ≡ Err Form) d h is (λ a b c e x bad name.
    let l : Data = array (item a (item b (item c (item e (item x no_items))))) in
    process_or 1 l b _ _ refl (fields (codes "heard") a _ refl bad name) (λ h2 process.
    chain (u64_at 2 l) _ (IsPlainly-or_form _) (or_else (value_fits 2 c) _ h2 (u64_bad 2 2 l c refl) (λ h3 clock.
    process_or 3 l e _ _ refl h3 (λ h4 from.
    stops (u64_at 4 l) _ (u64_bad 2 4 l x refl (last_false (value_fits 2 x) true refl h4)))))))

send_bad : (d : Data) → value_fits levels d ≡ false → is_array_named d (codes "send") 5 ≡ true → parse_send_event d ≡ Err Form
unfolding parse_send_event
send_bad d h is = of_line 4 (codes "send") (λ x. parse_send_event x ≡ Err Form) d h is (λ a b c e x bad name.
    let l : Data = array (item a (item b (item c (item e (item x no_items))))) in
    event_or b c _ (fields (codes "send") a _ refl bad name)
    (λ event. after (pid_at 3 l) _ (IsPlainly-pid 3 l) (λ to. after (u32_at 4 l) _ (IsPlainly-or_form _) (λ ssn. event_bad l b c _ refl refl event)))
    (λ own. process_or 3 l e _ _ refl own (λ h2 to.
    stops (u32_at 4 l) _ (number_bad (2 ^ 32) 2 4 l x refl (last_false (value_fits 2 x) true refl h2)))))

deliver_bad : (d : Data) → value_fits levels d ≡ false → is_array_named d (codes "deliver") 8 ≡ true → parse_deliver_event d ≡ Err Form
unfolding parse_deliver_event
deliver_bad d h is = of_line 7 (codes "deliver") (λ x. parse_deliver_event x ≡ Err Form) d h is (λ a b c e x y z w bad name.
    let l : Data = array (item a (item b (item c (item e (item x (item y (item z (item w no_items)))))))) in
    event_or b c _ (fields (codes "deliver") a _ refl bad name)
    (λ event. after (pid_at 3 l) _ (IsPlainly-pid 3 l) (λ source. after (u32_at 4 l) _ (IsPlainly-or_form _) (λ lane. after (u32_at 5 l) _ (IsPlainly-or_form _) (λ ssn.
    after (u32_at 6 l) _ (IsPlainly-or_form _) (λ rsn. after (dets_at 7 l) _ (IsPlainly-dets 7 l) (λ listed. event_bad l b c _ refl refl event))))))
    (λ own. process_or 3 l e _ _ refl own (λ h2 source.
    number_or 4 l x _ _ refl h2 (λ h3 lane. number_or 5 l y _ _ refl h3 (λ h4 ssn. number_or 6 l z _ _ refl h4 (λ h5 rsn.
    stops (dets_at 7 l) _ (dets_bad 7 l w refl (last_false (value_fits 2 w) true refl h5))))))))

-- a value that fails the scan is refused for its form
pub no_line : (d : Data) → value_fits levels d ≡ false → parse_recorder_value d ≡ Err Form
unfolding parse_recorder_value parse_restart_event parse_forget_event
no_line d h =
    either _ _ _ (header_bad d h) (either _ _ _ (send_bad d h) (either _ _ _ (deliver_bad d h) (either _ _ _ (stable_bad d h)
    (either _ _ _ (crash_bad d h) (either _ _ _ (listing_bad (codes "restart") Restart d refl h) (either _ _ _ (listing_bad (codes "forget") Forget d refl h) (either _ _ _ (heard_bad d h) refl)))))))

-- ---- what the scan of a long line implies for its JSON value

-- bytes that fail the scan are JSON that has none of the shapes of a line
pub shapeless : (r : Result Data TextKind) → (r >>= λ d. Ok (value_fits levels d)) ≡ Ok false → (d : Data) × (r ≡ Ok d) × (parse_recorder_value d ≡ Err Form)
shapeless r h = grind (arith, no_line)
