-- A start, a command, and their lines.
use Rattle.std.proofs.Common.{◌≡◌, ℕ, ◌<◌, ◌^◌, List, ◌∷◌, ◌++◌, cond, Option, Some, None, ap, sym, ◌∙◌, arith, decimal, codes, bytes_eq, ◌≤◌, Bool, true, false, refl, subst}
use Rattle.std.proofs.lemmas.Option.{none-some, same_Some}
use Rattle.std.proofs.lemmas.Slice.Eq.{bytes_eq-Decides}
use Rattle.causal_name.specs.declared.Pid.{Pid}
use Rattle.causal_protocol.specs.declared.request.Request.{Request}
use Rattle.causal_protocol.specs.declared.request.Request.TheVariants.{Deliver}
use Rattle.causal_script.specs.Spelling.{command_line, IsRequest, exploration_word, exploration_numbers, start_line, IsStart, IsExploration}
use Rattle.causal_script.specs.Faults.{IsCommandLine, IsStartLine}
use Rattle.causal_script.specs.Inside.Reading.{◌>>=◌, split_at_byte, parse_number, parse_process, parse_delivery, parse_process_command, named_request, parse_request, parse_count, split_last, numbered_start, parse_start_numbers, tally_of, start_of_kind, named_start, start_of}
use Rattle.causal_script.proofs.Numbers.{cut_whole, parse_number-decimal, decimal-number_of, parse_process-decimal, decimal-process_of, cut_number, parse_count-decimal, decimal-count_of}
use Rattle.std.specs.Prelude.{IfSome, is_some}
use Rattle.std.proofs.lemmas.List.{append-nil}
use Rattle.causal_script.specs.declared.script.Exploration.{Exploration}
use Rattle.causal_script.specs.declared.script.Kind.{Kind}
use Rattle.causal_script.specs.declared.script.Kind.TheVariants.{Ring, Echo, Tally}
use Rattle.causal_script.specs.declared.start.Start.{Start}

-- if two chained parsing steps return a value, each of them does
pub bind_some : {A B : Type 0} (r : Option A) (f : A → Option B) (y : B) → (r >>= f) ≡ Some y → (x : A) × (r ≡ Some x) × (f x ≡ Some y)
bind_some r f y e = grind (arith, none-some)

-- a property of what is parsed after a split holds if it holds of the split's two parts
pub behind_cut : {A P : Type 0} (line : List ℕ) (f : List ℕ × List ℕ → Option A) (y : A) → (split_at_byte 32 line >>= f) ≡ Some y → ((parts : List ℕ × List ℕ) → line ≡ parts.0 ++ 32 ∷ parts.1 → f parts ≡ Some y → P) → P
behind_cut line f y e said = let a = bind_some (split_at_byte 32 line) f y e in said a.0 (cut_whole 32 line a.0 a.1) a.2

-- the value of a choice by name belongs to that name, or to one of the other names
pub chosen : {A : Type 0} (name word : List ℕ) (x y : Option A) (z : A) {P : Type 0} → (name ≡ word → x ≡ Some z → P) → (y ≡ Some z → P) → cond (bytes_eq name word) x y ≡ Some z → P
chosen name word x y z {P} this other e = grind (arith, bytes_eq-Decides name word)

-- ---- from the line to the request

-- the line spells the request
abbrev pub Says : List ℕ → Request → Type 0
Says line r = IsRequest r × (line ≡ command_line r)

says_delivery : (name words line : List ℕ) (r : Request) → line ≡ name ++ 32 ∷ words → name ≡ codes "deliver" → parse_delivery words ≡ Some r → Says line r
unfolding parse_delivery
says_delivery name words line r whole named e =
    let a = bind_some (split_at_byte 32 words) _ r e in
    let b = bind_some (split_at_byte 32 a.0.1) _ r a.2 in
    let q = bind_some (parse_process a.0.0) _ r b.2 in
    let source = bind_some (parse_process b.0.0) _ r q.2 in
    let ssn = bind_some (parse_number 4294967295 b.0.1) _ r source.2 in
    let to = decimal-process_of q.0 a.0.0 q.1 in
    let from = decimal-process_of source.0 b.0.0 source.1 in
    let number = decimal-number_of 4294967295 ssn.0 b.0.1 (omega arith) ssn.1 in
    let spelled : words ≡ decimal q.0.0 ++ (32 ∷ (decimal source.0.0 ++ (32 ∷ decimal ssn.0))) = cc (cut_whole 32 words a.0 a.1, cut_whole 32 a.0.1 b.0 b.1, to.0, from.0, number.0) in
    rw (← same_Some _ _ ssn.2) ((to.1, from.1, omega (arith, number.1)), whole ∙ ap (λ xs. xs ++ 32 ∷ words) named ∙ ap (λ xs. codes "deliver " ++ xs) spelled)

says_of_process : (name words line : List ℕ) (p : Pid) (r : Request) → line ≡ name ++ 32 ∷ words → words ≡ decimal p.0 → p.0 < 2 ^ 8 → parse_process_command name p ≡ Some r → Says line r
unfolding parse_process_command
says_of_process name words line p r whole number small e = grind (arith, bytes_eq-Decides name)

says_named : (name words line : List ℕ) (r : Request) → line ≡ name ++ 32 ∷ words → named_request name words ≡ Some r → Says line r
unfolding named_request
says_named name words line r whole e =
    chosen name (codes "deliver") _ _ r (λ named is. says_delivery name words line r whole named is) behind e where
      behind : (parse_process words >>= λ p. parse_process_command name p) ≡ Some r → Says line r
      behind is =
          let p = bind_some (parse_process words) _ r is in
          let number = decimal-process_of p.0 words p.1 in
          says_of_process name words line p.0 r whole number.0 number.1 p.2

-- if a line is parsed as a request, it spells that request
pub says_request : (line : List ℕ) (r : Request) → parse_request line ≡ Some r → Says line r
unfolding parse_request
says_request line r e = behind_cut line _ r e (λ parts whole is. says_named parts.0 parts.1 line r whole is)

-- ---- from the request to the line

delivery_back : (q source : Pid) (ssn : ℕ) → q.0 < 2 ^ 8 → source.0 < 2 ^ 8 → ssn < 2 ^ 32 → parse_delivery (decimal q.0 ++ (32 ∷ (decimal source.0 ++ (32 ∷ decimal ssn)))) ≡ Some (Deliver q source ssn)
unfolding parse_delivery
delivery_back q source ssn a b s = grind (arith, cut_number, parse_process-decimal q a, parse_process-decimal source b, parse_number-decimal)

-- the line of a request is parsed as that request
pub request_back : (r : Request) → IsRequest r → parse_request (command_line r) ≡ Some r
unfolding parse_request named_request parse_process_command
request_back r h = grind (arith, delivery_back, parse_process-decimal)

-- ---- valid and invalid lines

-- a line that is parsed as a request is a command line
pub commanded : (line : List ℕ) (r : Request) → parse_request line ≡ Some r → IsCommandLine line
commanded line r e = let says = says_request line r e in (r, says.0, says.1)

-- if the spelling of each value is parsed again, a line that is not parsed spells no value
pub none_spelled : {A : Type 0} (read : List ℕ → Option A) (spell : A → List ℕ) (line : List ℕ) (x : A) → read line ≡ None → read (spell x) ≡ Some x → line ≡ spell x → ⊥
none_spelled read spell line x none back is = none-some x (sym none ∙ ap read is ∙ back)

-- a line that is not parsed as a request is not a command line
pub not_commanded : (line : List ℕ) → parse_request line ≡ None → IsCommandLine line → ⊥
not_commanded line e h = none_spelled parse_request command_line line h.0 e (request_back h.0 h.1) h.2

-- ---- from the line to the start

-- the first word of a line that is to have an exploration, or none
abbrev word_for : Bool → List ℕ
word_for false = codes "start "
word_for true = codes "explore "

-- a start's last number, and the exploration after it
record IsSplit (explores : Bool) (words : List ℕ) (parts : List ℕ × Option Exploration) : Type 0 where
  whole : words ≡ parts.0 ++ exploration_numbers parts.1
  fits : IfSome parts.1 IsExploration
  word : word_for explores ≡ exploration_word parts.1

split_last_is : (explores : Bool) (words : List ℕ) (parts : List ℕ × Option Exploration) → split_last explores words ≡ Some parts → IsSplit explores words parts
unfolding split_last
split_last_is false words parts e = subst (IsSplit false words) (same_Some _ _ e) (record { whole = sym (append-nil words); fits = tt; word = refl })
split_last_is true words parts e =
    let a = bind_some (split_at_byte 32 words) _ parts e in
    let b = bind_some (split_at_byte 32 a.0.1) _ parts a.2 in
    let seed = bind_some (parse_number 4294967295 b.0.0) _ parts b.2 in
    let steps = bind_some (parse_number 1000 b.0.1) _ parts seed.2 in
    let from = decimal-number_of 4294967295 seed.0 b.0.0 (omega arith) seed.1 in
    let most = decimal-number_of 1000 steps.0 b.0.1 (omega arith) steps.1 in
    let whole : words ≡ a.0.0 ++ (32 ∷ (decimal seed.0 ++ (32 ∷ decimal steps.0))) = cc (cut_whole 32 words a.0 a.1, cut_whole 32 a.0.1 b.0 b.1, from.0, most.0) in
    subst (IsSplit true words) (same_Some _ _ steps.2) (record { whole = whole; fits = (omega (arith, from.1), most.1); word = refl })

-- the numbers after the kind
record IsNumbers (explores : Bool) (kind : Kind) (s : Start) : Type 0 where
  kind_is : s.kind ≡ kind
  some : 1 ≤ s.n
  few : s.n ≤ 256
  faults : s.f < 2 ^ 16
  fits : IfSome s.exploration IsExploration
  word : word_for explores ≡ exploration_word s.exploration

numbered_is : (explores : Bool) (kind : Kind) (front back : List ℕ) (param : ℕ) (exploration : Option Exploration) (s : Start) → IfSome exploration IsExploration → word_for explores ≡ exploration_word exploration
    → numbered_start kind front back param exploration ≡ Some s → IsNumbers explores kind s × (front ≡ decimal s.n) × (back ≡ decimal s.f) × (s.param ≡ param) × (s.exploration ≡ exploration)
unfolding numbered_start
numbered_is explores kind front back param exploration s fits word e =
    let n = bind_some (parse_count front) _ s e in
    let f = bind_some (parse_number 65535 back) _ s n.2 in
    let count = decimal-count_of n.0 front n.1 in
    let faults = decimal-number_of 65535 f.0 back (omega arith) f.1 in
    rw (← same_Some _ _ f.2) (record { kind_is = refl; some = count.1; few = count.2; faults = omega (arith, faults.1); fits = fits; word = word }, count.0, faults.0, refl, refl)

with_param_is : (explores : Bool) (kind : Kind) (words : List ℕ) (s : Start) → parse_start_numbers explores kind words ≡ Some s
    → IsNumbers explores kind s × (s.param < 2 ^ 8) × (words ≡ decimal s.n ++ (32 ∷ (decimal s.f ++ (32 ∷ (decimal s.param ++ exploration_numbers s.exploration)))))
unfolding parse_start_numbers
with_param_is explores kind words s e =
    let a = bind_some (split_at_byte 32 words) _ s e in
    let b = bind_some (split_at_byte 32 a.0.1) _ s a.2 in
    let c = bind_some (split_last explores b.0.1) _ s b.2 in
    let param = bind_some (parse_number 255 c.0.0) _ s c.2 in
    let split = split_last_is explores b.0.1 c.0 c.1 in
    let number = decimal-number_of 255 param.0 c.0.0 (omega arith) param.1 in
    let w = numbered_is explores kind a.0.0 b.0.0 param.0 c.0.1 s split.fits split.word param.2 in
    (w.0, omega (arith, number.1, w.3), cc (cut_whole 32 words a.0 a.1, cut_whole 32 a.0.1 b.0 b.1, split.whole, number.0, w.1, w.2, w.3, w.4))

tally_is : (explores : Bool) (words : List ℕ) (s : Start) → tally_of explores words ≡ Some s → IsNumbers explores Tally s × (s.param ≡ 0) × (words ≡ decimal s.n ++ (32 ∷ (decimal s.f ++ exploration_numbers s.exploration)))
unfolding tally_of
tally_is explores words s e =
    let a = bind_some (split_at_byte 32 words) _ s e in
    let c = bind_some (split_last explores a.0.1) _ s a.2 in
    let split = split_last_is explores a.0.1 c.0 c.1 in
    let w = numbered_is explores Tally a.0.0 c.0.0 0 c.0.1 s split.fits split.word c.2 in
    (w.0, w.3, cc (cut_whole 32 words a.0 a.1, split.whole, w.1, w.2, w.4))

-- the line spells the start
abbrev pub SaysStart : List ℕ → Start → Type 0
SaysStart line s = IsStart s × (line ≡ start_line s)

says_with_param : (explores : Bool) (kind : Kind) (word name words line : List ℕ) (s : Start) → (kind ≡ Tally → ⊥)
    → (s.kind ≡ kind → exploration_word s.exploration ++ (word ++ (32 ∷ (decimal s.n ++ (32 ∷ (decimal s.f ++ (32 ∷ (decimal s.param ++ exploration_numbers s.exploration))))))) ≡ start_line s)
    → line ≡ word_for explores ++ (name ++ 32 ∷ words) → name ≡ word → parse_start_numbers explores kind words ≡ Some s → SaysStart line s
says_with_param explores kind word name words line s other spells whole named e =
    let w = with_param_is explores kind words s e in
    let n = w.0 in (
      record { some = n.some; few = n.few; faults = n.faults; param = w.1; tally = λ t. absurd (other (sym n.kind_is ∙ t)); explored = n.fits },
      rw (whole, named, n.word, w.2) (spells n.kind_is),
    )

says_tally : (explores : Bool) (name words line : List ℕ) (s : Start) → line ≡ word_for explores ++ (name ++ 32 ∷ words) → name ≡ codes "tally" → tally_of explores words ≡ Some s → SaysStart line s
says_tally explores name words line s whole named e =
    let w = tally_is explores words s e in
    let n = w.0 in (
      record { some = n.some; few = n.few; faults = n.faults; param = omega (arith, w.1); tally = λ t. w.1; explored = n.fits },
      rw (whole, named, n.word, w.2, n.kind_is) refl,
    )

says_kind : (explores : Bool) (name words line : List ℕ) (s : Start) → line ≡ word_for explores ++ (name ++ 32 ∷ words) → start_of_kind explores name words ≡ Some s → SaysStart line s
unfolding start_of_kind
says_kind explores name words line s whole e =
    chosen name (codes "ring") _ _ s (λ named is. says_with_param explores Ring (codes "ring") name words line s (λ no. cc) (λ is. rw is refl) whole named is)
    (chosen name (codes "echo") _ _ s (λ named is. says_with_param explores Echo (codes "echo") name words line s (λ no. cc) (λ is. rw is refl) whole named is)
    (chosen name (codes "tally") _ None s (λ named is. says_tally explores name words line s whole named is)
    (λ no. absurd (none-some s no)))) e

says_named_start : (name words line : List ℕ) (s : Start) → line ≡ name ++ 32 ∷ words → named_start name words ≡ Some s → SaysStart line s
unfolding named_start
says_named_start name words line s whole e =
    chosen name (codes "start") _ _ s (λ named is. behind false (whole ∙ ap (λ xs. xs ++ 32 ∷ words) named) is)
    (chosen name (codes "explore") _ None s (λ named is. behind true (whole ∙ ap (λ xs. xs ++ 32 ∷ words) named) is) (λ no. absurd (none-some s no))) e where
      behind : (explores : Bool) → line ≡ word_for explores ++ words → (split_at_byte 32 words >>= λ a. start_of_kind explores a.0 a.1) ≡ Some s → SaysStart line s
      behind explores front is =
          let a = bind_some (split_at_byte 32 words) _ s is in
          says_kind explores a.0.0 a.0.1 line s (front ∙ ap (λ xs. word_for explores ++ xs) (cut_whole 32 words a.0 a.1)) a.2

-- if a line is parsed as a start, it spells that start
pub says_start : (line : List ℕ) (s : Start) → start_of line ≡ Some s → SaysStart line s
unfolding start_of
says_start line s e = behind_cut line _ s e (λ parts whole is. says_named_start parts.0 parts.1 line s whole is)

-- ---- from the start to the line

split_last_back : (k : ℕ) (e : Option Exploration) → k < 2 ^ 64 → IfSome e IsExploration → split_last (is_some e) (decimal k ++ exploration_numbers e) ≡ Some (decimal k, e)
unfolding split_last
split_last_back k None small fits = ap (λ xs. Some (xs, None)) (append-nil (decimal k))
split_last_back k (Some e) small fits = grind (arith, cut_number, parse_number-decimal)

with_param_back : (kind : Kind) (n f param : ℕ) (e : Option Exploration) → 1 ≤ n → n ≤ 256 → f < 2 ^ 16 → param < 2 ^ 8 → IfSome e IsExploration
    → parse_start_numbers (is_some e) kind (decimal n ++ (32 ∷ (decimal f ++ (32 ∷ (decimal param ++ exploration_numbers e))))) ≡ Some (record { kind = kind; n = n; f = f; param = param; exploration = e })
unfolding parse_start_numbers numbered_start
with_param_back kind n f param e some few faults small fits = grind (arith, cut_number, parse_number-decimal, parse_count-decimal n some few, split_last_back param e)

tally_back : (n f : ℕ) (e : Option Exploration) → 1 ≤ n → n ≤ 256 → f < 2 ^ 16 → IfSome e IsExploration
    → tally_of (is_some e) (decimal n ++ (32 ∷ (decimal f ++ exploration_numbers e))) ≡ Some (record { kind = Tally; n = n; f = f; param = 0; exploration = e })
unfolding tally_of numbered_start
tally_back n f e some few faults fits =
    rw (cut_number n (decimal f ++ exploration_numbers e) (omega arith)) (rw (split_last_back f e (omega arith) fits) (rw (parse_count-decimal n some few) (rw (parse_number-decimal 65535 f (omega arith) (omega arith)) refl)))

start_back_of : (kind : Kind) (n f param : ℕ) (e : Option Exploration) → IsStart (record { kind = kind; n = n; f = f; param = param; exploration = e })
    → start_of (start_line (record { kind = kind; n = n; f = f; param = param; exploration = e })) ≡ Some (record { kind = kind; n = n; f = f; param = param; exploration = e })
unfolding start_of named_start start_of_kind
start_back_of Ring n f param e h = grind (arith, with_param_back Ring n f param e)
start_back_of Echo n f param e h = grind (arith, with_param_back Echo n f param e)
start_back_of Tally n f param e h = grind (arith, tally_back n f e)

-- the line of a start is parsed as that start
pub start_back : (s : Start) → IsStart s → start_of (start_line s) ≡ Some s
start_back s h = start_back_of s.kind s.n s.f s.param s.exploration h

-- ---- valid and invalid lines

-- a line that is parsed as a start is a start line
pub started : (line : List ℕ) (s : Start) → start_of line ≡ Some s → IsStartLine line
started line s e = let says = says_start line s e in (s, says.0, says.1)

-- a line that is not parsed as a start is not a start line
pub not_started : (line : List ℕ) → start_of line ≡ None → IsStartLine line → ⊥
not_started line e h = none_spelled start_of start_line line h.0 e (start_back h.0 h.1) h.2
