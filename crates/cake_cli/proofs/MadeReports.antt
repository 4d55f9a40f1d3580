-- The reports that the code makes, by what they are made of.
use Rattle.std.proofs.Common.{◌≡◌, ℕ, zero, suc, List, [], ◌∷◌, Some, slice_get, Result, Ok, Err, IfOk, refl, sym, ap, ◌∙◌, subst}
use Rattle.cake_base.specs.declared.places.Place.{Place}
use Rattle.cake_base.specs.declared.rules.Family.TheVariants.{S}
use Rattle.cake_base.specs.declared.rules.Fault.{Fault}
use Rattle.cake_base.specs.declared.rules.LimitHit.{LimitHit}
use Rattle.cake_base.specs.declared.rules.Mark.{Mark}
use Rattle.model_tokens.specs.declared.tokens.CTok.{CTok}
use Rattle.cake_cli.specs.declared.modes.Mode.{Mode}
use Rattle.cake_cli.specs.declared.modes.Mode.TheVariants.{Translate, Expand, Check}
use Rattle.model_tokens.specs.CTokens.{c_tokens_of}
use Rattle.cake_cli.specs.ExpandedText.{expanded_text}
use Rattle.c_model.specs.FirstUnit.{UnitPlaces, returning, token_place}
use Rattle.model_preprocessing.specs.PreprocessedUnit.{Prepared}
use Rattle.model_preprocessing.specs.Processes.{Stop, broken, passed, Log}
use Rattle.cake_cli.specs.ReportLines.{notes_text}
use Rattle.model_c89.specs.Spelling89.{canonical}
use Rattle.model_core.specs.Core.{Core}
use Rattle.cake_cli.specs.Accepted.{accepted}
use Rattle.cake_cli.specs.Verdict.{Stopped, NotBuilt, IsCore, HasForm, IsVerdictOf}
use Rattle.c_parser.specs.Answers.{place_of, IsSyntaxError, IsDepthLimit}
use Rattle.cake_cli.specs.Answer.{Refused, Unbuilt, Limited, Written, Tokens, err_text, answer_to_stop, answer_to, delivery_of, IsAnswerIn}
use Rattle.pp_directives.specs.declared.errors.PrepError.{PrepError}
use Rattle.cake_cli.specs.declared.expression.Expr.{Expr}
use Rattle.cake_cli.specs.declared.report.Report.{Report}
use Rattle.cake_cli.specs.declared.status.Status.TheVariants as status
use Rattle.cake_cli.specs.Lowered.{program_of}
use Rattle.cake_cli.specs.Promise.{IsDelivered}
use Rattle.cake_cli.specs.Reader as reader
use Rattle.cake_cli.specs.ReadsAs.{ReadsAs}
use Rattle.cake_cli.specs.Reports.{IsReport, ReportsTokens, ReportsUnit, ReportsDone, ReportsStop, stop_of}
use Rattle.cake_cli.specs.Views.{expr_of, target_of}
use Rattle.cake_cli.proofs.Runs.{delivers}
use Rattle.cake_cli.proofs.Verdicts.{reading_says}

-- the place of the token of a rank, as the parser and the verdict have it
same_place : (tokens : List CTok) (end : Place) (at : ℕ) → place_of (slice_get tokens at) end ≡ token_place tokens end at
same_place [] end at = refl
same_place (t ∷ ts) end zero = refl
same_place (t ∷ ts) end (suc at) = same_place ts end at

-- nothing is said of findings that nobody looked for
only_notes : (mode : Mode) (log : Log) (core : Core) (marks : List Mark) → err_text (Written log (delivery_of mode (accepted core marks))) ≡ notes_text log
only_notes Translate log core marks = refl
only_notes Expand log core marks = refl
only_notes Check log core marks = refl

-- what is delivered of a unit that returns this value
abbrev pub Delivered : Mode → Expr → List ℕ → Type 0
Delivered mode value text = (places : UnitPlaces) (marks : List Mark) → IsDelivered (delivery_of mode (accepted (returning (expr_of value) places) marks)) text

module _ {E : Type 0} where
  -- where preprocessing stops
  pub stop_report : (r : Result Report E) (error : PrepError) (log : Log) (stop : Stop) → stop_of error ≡ Some stop → IfOk r (IsReport (answer_to_stop log stop)) → IfOk r (ReportsStop error log)
  stop_report (Ok r) error log stop e is = (stop, e, is)
  stop_report (Err x) error log stop e is = tt

  -- the text of a unit
  pub text_delivers : (r : Result (List ℕ) E) (mode : Mode) (value : Expr) → mode ≡ Translate → IfOk r (λ text. text ≡ canonical (program_of (target_of value))) → IfOk r (Delivered mode value)
  text_delivers (Ok text) mode value e is = λ places marks. subst (λ m. IsDelivered (delivery_of m (accepted (returning (expr_of value) places) marks)) text) (sym e) (delivers value places text is)
  text_delivers (Err x) mode value e is = tt

  -- reading stops at a token
  pub stop_tree : (r : Result Report E) (mode : Mode) (log : Log) (tokens : List CTok) (end place : Place) → HasForm tokens → reader.Stops place ≡ reader.read_unit tokens end → IfOk r (IsReport (Unbuilt log place)) → IfOk r (ReportsTokens mode log tokens end)
  stop_tree (Ok r) mode log tokens end place form reads is =
      let said : ReadsAs tokens end (reader.Stops place) = subst (ReadsAs tokens end) (sym reads) (reading_says tokens end) in
      (NotBuilt form.0 place, (form.1, said.0, said.1, said.2), λ marks. is)
  stop_tree (Err x) mode log tokens end place form reads is = tt

  -- a whole unit
  pub unit_tree : (r : Result Report E) (mode : Mode) (log : Log) (tokens : List CTok) (end : Place) (value : Expr) (out : List ℕ) → HasForm tokens → reader.Reads (expr_of value) ≡ reader.read_unit tokens end → Delivered mode value out → IfOk r (λ r. r.status ≡ status.Written) → IfOk r (λ r. r.out ≡ out) → IfOk r (λ r. r.err ≡ notes_text log) → IfOk r (ReportsTokens mode log tokens end)
  unit_tree (Ok r) mode log tokens end value out form reads delivered s o e =
      let said : ReadsAs tokens end (reader.Reads (expr_of value)) = subst (ReadsAs tokens end) (sym reads) (reading_says tokens end) in
      let core = returning (expr_of value) said.0 in (
        IsCore form.0 core,
        (form.1, said.1),
        λ marks. record {
          status = s;
          out = subst (IsDelivered (delivery_of mode (accepted core marks))) (sym o) (delivered said.0 marks);
          err = e ∙ sym (only_notes mode log core marks);
        },
      )
  unit_tree (Err x) mode log tokens end value out form reads delivered s o e = tt

  -- a syntax error, or the limit on nesting
  pub fault_tokens : (r : Result Report E) (mode : Mode) (log : Log) (tokens : List CTok) (end : Place) (fault : Fault) → IsSyntaxError tokens end fault → IfOk r (IsReport (Refused log fault)) → IfOk r (ReportsTokens mode log tokens end)
  fault_tokens (Ok r) mode log tokens end fault is report =
      (Stopped (broken fault), (is.at, is.faulty, is.named ∙ ap (λ place. record { place = place; rule = record { family = S; number = 1 } }) (same_place tokens end is.at)), λ marks. report)
  fault_tokens (Err x) mode log tokens end fault is report = tt

  pub limit_tokens : (r : Result Report E) (mode : Mode) (log : Log) (tokens : List CTok) (end : Place) (hit : LimitHit) → IsDepthLimit tokens hit → IfOk r (IsReport (Limited log hit)) → IfOk r (ReportsTokens mode log tokens end)
  limit_tokens (Ok r) mode log tokens end hit is report =
      (Stopped (passed hit), (is.at, is.deep, is.named ∙ ap (λ place. record { place = place; limit = record { number = 6 } }) (ap (λ t. place_of t end) (sym is.there) ∙ same_place tokens end is.at)), λ marks. report)
  limit_tokens (Err x) mode log tokens end hit is report = tt

  -- tokens that are converted, or one that isn't
  pub converted_unit : (r : Result Report E) (mode : Mode) (log : Log) (unit : Prepared) (tokens : List CTok) → c_tokens_of unit.tokens ≡ Ok tokens → IfOk r (ReportsTokens mode log tokens unit.end) → IfOk r (ReportsUnit mode log unit)
  converted_unit (Ok r) mode log unit tokens e (v, is, report) = (v, subst (λ x. IsVerdictOf x unit.end v) (sym e) is, report unit.marks)
  converted_unit (Err x) mode log unit tokens e is = tt

  pub refused_unit : (r : Result Report E) (mode : Mode) (log : Log) (unit : Prepared) (fault : Fault) → c_tokens_of unit.tokens ≡ Err fault → IfOk r (IsReport (Refused log fault)) → IfOk r (ReportsUnit mode log unit)
  refused_unit (Ok r) mode log unit fault e report = (Stopped (broken fault), subst (λ x. IsVerdictOf x unit.end (Stopped (broken fault))) (sym e) refl, report)
  refused_unit (Err x) mode log unit fault e report = tt

  -- the modes
  pub translated_done : (r : Result Report E) (unit : Prepared) → IfOk r (ReportsUnit Translate unit.log unit) → IfOk r (ReportsDone Translate (Ok unit))
  translated_done (Ok r) unit (v, is, report) = (answer_to Translate unit.log unit.marks v, (v, is, refl), report)
  translated_done (Err x) unit is = tt

  pub checked_done : (r : Result Report E) (unit : Prepared) → IfOk r (ReportsUnit Check unit.log unit) → IfOk r (ReportsDone Check (Ok unit))
  checked_done (Ok r) unit (v, is, report) = (answer_to Check unit.log unit.marks v, (v, is, refl), report)
  checked_done (Err x) unit is = tt

  pub expanded_done : (r : Result Report E) (mode : Mode) (unit : Prepared) (out : List ℕ) → mode ≡ Expand → out ≡ expanded_text unit.tokens → IfOk r (λ r. r.status ≡ status.Written) → IfOk r (λ r. r.out ≡ out) → IfOk r (λ r. r.err ≡ notes_text unit.log) → IfOk r (ReportsDone mode (Ok unit))
  expanded_done (Ok r) mode unit out is text s o e =
      (Written unit.log (Tokens unit.tokens), subst (λ m. IsAnswerIn m (Ok unit) (Written unit.log (Tokens unit.tokens))) (sym is) refl, record { status = s; out = o ∙ text; err = e })
  expanded_done (Err x) mode unit out is text s o e = tt
