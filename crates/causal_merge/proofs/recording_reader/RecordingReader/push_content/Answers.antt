use Rattle.std.proofs.Common.{◌+◌, ◌∙◌, Err, ap, sym}
use Rattle.causal_line.proofs.Lemmas.DefinedErrors.{error_is_defined}
use Rattle.causal_merge.specs.declared.fault.MergeFault.{MergeFault}
use Rattle.causal_merge.specs.declared.fault.MergeKind.TheVariants.{Line}
use Rattle.causal_merge.specs.RecordingReaders.{RecordingReaderState}
use Rattle.causal_merge.specs.Reading.{line_fault}
use Rattle.causal_merge.proofs.LineLemmas.{next_refused}
use Rattle.causal_merge.proofs.recording_reader.RecordingReader.push_content.Goals as goal

pub returns-in-Err : goal.returns-in-Err
returns-in-Err c = λ most before h other.
    let kind = c.in-Err.kind in
    let is = c.line_fault.ensures ∙ ap (λ (r : RecordingReaderState). line_fault (r.files.count + 1) kind) c.self.view_is in
    next_refused most c.args.self before c.args.line.now kind h
    (error_is_defined kind kind _ (rw c.in-Err.is at c.requires.value) (λ same. other (ap (λ (f : MergeFault). f.kind) c.line_fault.ensures ∙ ap Line same)))
    ∙ ap Err (sym is)
