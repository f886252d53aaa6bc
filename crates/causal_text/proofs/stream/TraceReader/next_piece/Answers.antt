use Rattle.std.proofs.Common.{◌≡◌, [], refl, append-nil}
use Rattle.std.proofs.KnownBytes.{Consumes-nil}
use Rattle.causal_text.specs.declared.stream.State.TheVariants.{Reading, Ended, Failed}
use Rattle.causal_text.proofs.stream.TraceReader.next_piece.Goals as goal

pub returns-in-Reading-clause-ok : goal.returns-in-Reading-clause-ok
returns-in-Reading-clause-ok g c = rw (← c.self.view_is, ← c.in-Reading.ensures.value) c.read_piece.ensures.ok

pub returns-in-Reading-clause-text : goal.returns-in-Reading-clause-text
returns-in-Reading-clause-text g c = rw (← c.self.view_is, ← c.in-Reading.ensures.value) c.read_piece.ensures.text

pub returns-in-Reading-clause-stays_failed : goal.returns-in-Reading-clause-stays_failed
returns-in-Reading-clause-stays_failed g c =
    rw (← c.self.view_is, ← c.in-Reading.ensures.value) (λ e. absurd (let no : Reading c.in-Reading.pieces ≡ Failed = e in cc))

pub returns-in-Failed : goal.returns-in-Failed
returns-in-Failed g c =
    rw (← c.self.view_is, ← c.in-Failed.ensures.value) (record {
      ok = tt;
      follows = tt;
      end = λ h. tt;
      text = λ b h. h;
      memory = tt;
      failed = c.replace.ensures.after;
      ended = λ r e. absurd (let no : Failed ≡ Ended r = e in cc);
      stays_failed = λ e. refl;
    })

pub returns-in-Ended : goal.returns-in-Ended
returns-in-Ended g c =
    rw (← c.self.view_is, ← c.in-Ended.ensures.value) (record {
      ok = ([], Consumes-nil _, refl, λ b h. rw append-nil h);
      follows = tt;
      end = λ h. absurd h;
      text = tt;
      memory = tt;
      failed = tt;
      ended = λ r e. (refl, refl);
      stays_failed = λ e. absurd (let no : Ended c.in-Ended.trace ≡ Failed = e in cc);
    })
