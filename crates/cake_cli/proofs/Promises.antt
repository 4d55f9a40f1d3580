-- The clauses of the command follow from how a call comes out.
use Rattle.std.proofs.Common.{◌≡◌, ◌≢◌, ◌⊎◌, ℕ, ◌≤◌, List, [], length, Option, Some, None, Result, Ok, Err, refl, sym, ap, ◌∙◌, subst, inl, inr, arith}
use Rattle.std.proofs.lemmas.List.{append-nil}
use Rattle.std.proofs.Math.Seq.{take-length}
use Rattle.cake_base.specs.declared.rules.Mark.{Mark}
use Rattle.cake_base.specs.Outside.{Held, appended}
use Rattle.cake_cli.specs.declared.modes.Mode.{Mode}
use Rattle.cake_cli.specs.declared.modes.Mode.TheVariants.{Translate, Expand, Check}
use Rattle.model_preprocessing.specs.PreprocessedUnit.{Prepared, preprocessed, log_of}
use Rattle.model_preprocessing.specs.Processes.{Stop, broken, passed, unread, Log, Refusal}
use Rattle.cake_cli.specs.Verdict.{Verdict, Stopped, NotBuilt, IsCore}
use Rattle.cake_cli.specs.Words.{Plan}
use Rattle.cake_cli.specs.Answer.{Delivery, Answer, Usage, Unreadable, Refused, Unbuilt, Limited, RefusedByFindings, Written, err_text, answer_to_stop, answer_to, marks_of, expanded, IsAnswerIn}
use Rattle.cake_cli.specs.declared.status.Status.{Status}
use Rattle.cake_cli.specs.declared.status.Status.TheVariants as status
use Rattle.cake_cli.specs.Call.{Call, IsDueIn, IsDue}
use Rattle.cake_cli.specs.Promise.{ReadFailed, NothingOnOut, NothingOnErr, PutsOnOut, PutsOnErr, PutsPrefixOnErr, ForDue, AreRead, AreBad, IsWritten, IsRefused, IsUnreadable, IsLimited, IsExcused, Exactly, IsDelivered, PutsText, IsFailedRead, IsFailedText, ErrGets, PutFailed, NoFault, Meets, ReadsAll}
use Rattle.cake_cli.specs.Reports.{status_of, IsOutText, all_put, err_failed, out_failed, Outcome, as_due, no_memory, failed_read, unread_answer}
use Rattle.cake_cli.proofs.Outcomes.{ComesOut}

-- the words have a reading
are_read : (plan : Result Plan ℕ) (p : Plan) → plan ≡ Ok p → AreRead plan
are_read plan p e = subst AreRead (sym e) tt

failed_is : (plan : Result Plan ℕ) (p : Plan) (c : Call) → plan ≡ Ok p → IsFailedRead (Ok p) c → IsFailedRead plan c
failed_is plan p c e is = subst (λ x. IsFailedRead x c) (sym e) is

-- the status of a call is that of the due answer, or is excused
status_is : (plan : Result Plan ℕ) (due : Answer) (c : Call) (result : Status) → Outcome plan due c result → (result ≡ status_of due) ⊎ IsExcused result plan c
status_is plan due c result (as_due text is counts (all_put r e o)) = inl r
status_is plan due c result (as_due text is counts (err_failed r rose e o)) = inr (subst (λ s. IsExcused s plan c) (sym r) (inl rose))
status_is plan due c result (as_due text is counts (out_failed r rose e o ne)) = inr (subst (λ s. IsExcused s plan c) (sym r) (inr rose))
status_is plan due c result (no_memory p pl r o e) = inr (subst (λ s. IsExcused s plan c) (sym r) (are_read plan p pl))
status_is plan due c result (failed_read p pl file log f (all_put r e o)) = inr (subst (λ s. IsExcused s plan c) (sym r) (failed_is plan p c pl (file, log, f)))
status_is plan due c result (failed_read p pl file log f (err_failed r rose e o)) = inr (subst (λ s. IsExcused s plan c) (sym r) (inl rose))
status_is plan due c result (failed_read p pl file log f (out_failed r rose e o ne)) = absurd (ne refl)

-- out has a text only where something is written
written_only : (due : Answer) (text : List ℕ) → IsOutText due text → text ≢ [] → (log : Log) × (delivery : Delivery) × (due ≡ Written log delivery) × IsDelivered delivery text
written_only (Usage n) text e ne = absurd (ne e)
written_only (Unreadable log name) text e ne = absurd (ne e)
written_only (Refused log fault) text e ne = absurd (ne e)
written_only (Unbuilt log place) text e ne = absurd (ne e)
written_only (Limited log hit) text e ne = absurd (ne e)
written_only (RefusedByFindings log unit) text e ne = absurd (ne e)
written_only (Written log delivery) text d ne = (log, delivery, refl, d)

appended-nil : (content : Option (List ℕ)) → appended content [] ≡ content
appended-nil None = refl
appended-nil (Some content) = ap Some (append-nil content)

nothing_put : (text : List ℕ) (c : Call) → text ≡ [] → PutsOnOut text c → NothingOnOut c
nothing_put text c e o = o ∙ ap (appended c.out.content) e ∙ appended-nil c.out.content

-- a due status that isn't Written puts nothing on out
due_puts_nothing : (due : Answer) (text : List ℕ) (c : Call) → status_of due ≢ status.Written → IsOutText due text → PutsOnOut text c → NothingOnOut c
due_puts_nothing (Usage n) text c ne e o = nothing_put text c e o
due_puts_nothing (Unreadable log name) text c ne e o = nothing_put text c e o
due_puts_nothing (Refused log fault) text c ne e o = nothing_put text c e o
due_puts_nothing (Unbuilt log place) text c ne e o = nothing_put text c e o
due_puts_nothing (Limited log hit) text c ne e o = nothing_put text c e o
due_puts_nothing (RefusedByFindings log unit) text c ne e o = nothing_put text c e o
due_puts_nothing (Written log delivery) text c ne e o = absurd (ne refl)

-- each status is that of one kind of answer
refused_due : (due : Answer) → status_of due ≡ status.Refused → IsRefused due
refused_due (Usage n) e = absurd (let h : status.Usage ≡ status.Refused = e in cc)
refused_due (Unreadable log name) e = absurd (let h : status.ReadFault ≡ status.Refused = e in cc)
refused_due (Refused log fault) e = tt
refused_due (Unbuilt log place) e = tt
refused_due (Limited log hit) e = absurd (let h : status.Limit ≡ status.Refused = e in cc)
refused_due (RefusedByFindings log unit) e = tt
refused_due (Written log delivery) e = absurd (let h : status.Written ≡ status.Refused = e in cc)

unreadable_due : (due : Answer) → status_of due ≡ status.ReadFault → IsUnreadable due
unreadable_due (Usage n) e = absurd (let h : status.Usage ≡ status.ReadFault = e in cc)
unreadable_due (Unreadable log name) e = tt
unreadable_due (Refused log fault) e = absurd (let h : status.Refused ≡ status.ReadFault = e in cc)
unreadable_due (Unbuilt log place) e = absurd (let h : status.Refused ≡ status.ReadFault = e in cc)
unreadable_due (Limited log hit) e = absurd (let h : status.Limit ≡ status.ReadFault = e in cc)
unreadable_due (RefusedByFindings log unit) e = absurd (let h : status.Refused ≡ status.ReadFault = e in cc)
unreadable_due (Written log delivery) e = absurd (let h : status.Written ≡ status.ReadFault = e in cc)

limited_due : (due : Answer) → status_of due ≡ status.Limit → IsLimited due
limited_due (Usage n) e = absurd (let h : status.Usage ≡ status.Limit = e in cc)
limited_due (Unreadable log name) e = absurd (let h : status.ReadFault ≡ status.Limit = e in cc)
limited_due (Refused log fault) e = absurd (let h : status.Refused ≡ status.Limit = e in cc)
limited_due (Unbuilt log place) e = absurd (let h : status.Refused ≡ status.Limit = e in cc)
limited_due (Limited log hit) e = tt
limited_due (RefusedByFindings log unit) e = absurd (let h : status.Refused ≡ status.Limit = e in cc)
limited_due (Written log delivery) e = absurd (let h : status.Written ≡ status.Limit = e in cc)

due_refused : (due : Answer) → IsRefused due → status_of due ≡ status.Refused
due_refused (Usage n) i = absurd i
due_refused (Unreadable log name) i = absurd i
due_refused (Refused log fault) i = refl
due_refused (Unbuilt log place) i = refl
due_refused (Limited log hit) i = absurd i
due_refused (RefusedByFindings log unit) i = refl
due_refused (Written log delivery) i = absurd i

due_unreadable : (due : Answer) → IsUnreadable due → status_of due ≡ status.ReadFault
due_unreadable (Usage n) i = absurd i
due_unreadable (Unreadable log name) i = refl
due_unreadable (Refused log fault) i = absurd i
due_unreadable (Unbuilt log place) i = absurd i
due_unreadable (Limited log hit) i = absurd i
due_unreadable (RefusedByFindings log unit) i = absurd i
due_unreadable (Written log delivery) i = absurd i

due_limited : (due : Answer) → IsLimited due → status_of due ≡ status.Limit
due_limited (Usage n) i = absurd i
due_limited (Unreadable log name) i = absurd i
due_limited (Refused log fault) i = absurd i
due_limited (Unbuilt log place) i = absurd i
due_limited (Limited log hit) i = refl
due_limited (RefusedByFindings log unit) i = absurd i
due_limited (Written log delivery) i = absurd i

-- written

puts_text : (due : Answer) (text : List ℕ) (c : Call) → status.Written ≡ status_of due → IsOutText due text → PutsOnOut text c → PutsText due c
puts_text (Usage n) text c e d o = absurd (let h : status.Written ≡ status.Usage = e in cc)
puts_text (Unreadable log name) text c e d o = absurd (let h : status.Written ≡ status.ReadFault = e in cc)
puts_text (Refused log fault) text c e d o = absurd (let h : status.Written ≡ status.Refused = e in cc)
puts_text (Unbuilt log place) text c e d o = absurd (let h : status.Written ≡ status.Refused = e in cc)
puts_text (Limited log hit) text c e d o = absurd (let h : status.Written ≡ status.Limit = e in cc)
puts_text (RefusedByFindings log unit) text c e d o = absurd (let h : status.Written ≡ status.Refused = e in cc)
puts_text (Written log delivery) text c e d o = (log, delivery, refl, text, d, o)

written_by : (plan : Result Plan ℕ) (due : Answer) (c : Call) (result : Status) → Outcome plan due c result → result ≡ status.Written → PutsText due c
written_by plan due c result (as_due text is counts (all_put r e o)) w = puts_text due text c (sym w ∙ r) is o
written_by plan due c result (as_due text is counts (err_failed r rose e o)) w = absurd (let h : status.Written ≡ status.WriteFault = sym w ∙ r in cc)
written_by plan due c result (as_due text is counts (out_failed r rose e o ne)) w = absurd (let h : status.Written ≡ status.WriteFault = sym w ∙ r in cc)
written_by plan due c result (no_memory p pl r o e) w = absurd (let h : status.Written ≡ status.NoMemory = sym w ∙ r in cc)
written_by plan due c result (failed_read p pl file log f (all_put r e o)) w = absurd (let h : status.Written ≡ status.ReadFault = sym w ∙ r in cc)
written_by plan due c result (failed_read p pl file log f (err_failed r rose e o)) w = absurd (let h : status.Written ≡ status.WriteFault = sym w ∙ r in cc)
written_by plan due c result (failed_read p pl file log f (out_failed r rose e o ne)) w = absurd (ne refl)

pub written : (plan : Result Plan ℕ) (c : Call) (result : Status) → ComesOut plan c result → result ≡ status.Written → ForDue plan c (λ due. PutsText due c)
written plan c result (due, is, out) w = (due, is, written_by plan due c result out w)

-- err

whole_prefix : (text : List ℕ) (c : Call) → PutsOnErr text c → PutsPrefixOnErr text c
whole_prefix text c e = (length text, le text, e ∙ ap (appended c.err.content) (sym (take-length text)))
  where
    le : (text : List ℕ) → length text ≤ length text
    le text = omega arith

err_of_due : (plan : Result Plan ℕ) (due : Answer) (c : Call) → PutsOnErr (err_text due) c → ErrGets (status_of due) plan due c
err_of_due plan (Usage n) c e = e
err_of_due plan (Unreadable log name) c e = inl (tt, e)
err_of_due plan (Refused log fault) c e = e
err_of_due plan (Unbuilt log place) c e = e
err_of_due plan (Limited log hit) c e = e
err_of_due plan (RefusedByFindings log unit) c e = e
err_of_due plan (Written log delivery) c e = e

failed_text : (plan : Result Plan ℕ) (p : Plan) (c : Call) (text : List ℕ) → plan ≡ Ok p → IsFailedText (Ok p) c text → IsFailedText plan c text
failed_text plan p c text e is = subst (λ x. IsFailedText x c text) (sym e) is

err_by : (plan : Result Plan ℕ) (due : Answer) (c : Call) (result : Status) → Outcome plan due c result → ErrGets result plan due c
err_by plan due c result (as_due text is counts (all_put r e o)) = subst (λ s. ErrGets s plan due c) (sym r) (err_of_due plan due c e)
err_by plan due c result (as_due text is counts (err_failed r rose e o)) = subst (λ s. ErrGets s plan due c) (sym r) (err_text due, inl refl, e)
err_by plan due c result (as_due text is counts (out_failed r rose e o ne)) = subst (λ s. ErrGets s plan due c) (sym r) (err_text due, inl refl, whole_prefix (err_text due) c e)
err_by plan due c result (no_memory p pl r o e) = subst (λ s. ErrGets s plan due c) (sym r) e
err_by plan due c result (failed_read p pl file log f (all_put r e o)) =
    subst (λ s. ErrGets s plan due c) (sym r) (inr (err_text (unread_answer log file), failed_text plan p c _ pl (file, log, f, refl), e))
err_by plan due c result (failed_read p pl file log f (err_failed r rose e o)) =
    subst (λ s. ErrGets s plan due c) (sym r) (err_text (unread_answer log file), inr (failed_text plan p c _ pl (file, log, f, refl)), e)
err_by plan due c result (failed_read p pl file log f (out_failed r rose e o ne)) = absurd (ne refl)

pub err : (plan : Result Plan ℕ) (c : Call) (result : Status) → ComesOut plan c result → ForDue plan c (λ due. ErrGets result plan due c)
err plan c result (due, is, out) = (due, is, err_by plan due c result out)

-- causes

-- an answer by another status than the due one
not_excused : (result : Status) (plan : Result Plan ℕ) (c : Call) → (IsExcused result plan c → ⊥) → (due : Answer) → (result ≡ status_of due) ⊎ IsExcused result plan c → result ≡ status_of due
not_excused result plan c never due (inl e) = e
not_excused result plan c never due (inr x) = absurd (never x)

by_status : (due : Answer) (plan : Result Plan ℕ) (c : Call) (result wanted : Status) → status_of due ≡ wanted → (result ≡ status_of due) ⊎ IsExcused result plan c → (result ≡ wanted) ⊎ IsExcused result plan c
by_status due plan c result wanted e (inl r) = inl (r ∙ e)
by_status due plan c result wanted e (inr x) = inr x

bad_by : (plan : Result Plan ℕ) (c : Call) (due : Answer) → AreBad plan → IsDue plan c due → status_of due ≡ status.Usage
bad_by (Ok p) c due bad is = absurd bad
bad_by (Err number) c due bad is = ap status_of is

-- an answer that words with a reading have isn't Usage
stop_isnt_usage : (log : Log) (stop : Stop) → status_of (answer_to_stop log stop) ≡ status.Usage → ⊥
stop_isnt_usage log (broken fault) e = let h : status.Refused ≡ status.Usage = e in cc
stop_isnt_usage log (passed hit) e = let h : status.Limit ≡ status.Usage = e in cc
stop_isnt_usage log (unread file cause) e = let h : status.ReadFault ≡ status.Usage = e in cc

verdict_isnt_usage : (mode : Mode) (log : Log) (marks : List Mark) (v : Verdict) → status_of (answer_to mode log marks v) ≡ status.Usage → ⊥
verdict_isnt_usage mode log marks (Stopped stop) e = stop_isnt_usage log stop e
verdict_isnt_usage mode log marks (NotBuilt unit place) e = let h : status.Refused ≡ status.Usage = e in cc
verdict_isnt_usage mode log marks (IsCore unit core) e = let h : status.Written ≡ status.Usage = e in cc

expanded_isnt_usage : (done : Result Prepared Refusal) → status_of (expanded done) ≡ status.Usage → ⊥
expanded_isnt_usage (Ok unit) e = let h : status.Written ≡ status.Usage = e in cc
expanded_isnt_usage (Err refusal) e = stop_isnt_usage refusal.log refusal.stop e

answer_isnt_usage : (mode : Mode) (done : Result Prepared Refusal) (due : Answer) → IsAnswerIn mode done due → status_of due ≡ status.Usage → ⊥
answer_isnt_usage Expand done due is e = expanded_isnt_usage done (sym (ap status_of is) ∙ e)
answer_isnt_usage Translate done due (v, is, a) e = verdict_isnt_usage Translate (log_of done) (marks_of done) v (sym (ap status_of a) ∙ e)
answer_isnt_usage Check done due (v, is, a) e = verdict_isnt_usage Check (log_of done) (marks_of done) v (sym (ap status_of a) ∙ e)

due_isnt_usage : (told : Option Held) (c : Call) (p : Plan) (due : Answer) → IsDueIn told c.files c.files' p due → status_of due ≡ status.Usage → ⊥
due_isnt_usage (Some held) c p due is e = answer_isnt_usage p.mode (preprocessed held p.options p.file) due is e
due_isnt_usage None c p due (done, comes, is) e = answer_isnt_usage p.mode done due is e

usage_bad : (plan : Result Plan ℕ) (c : Call) (due : Answer) → IsDue plan c due → status_of due ≡ status.Usage → AreBad plan
usage_bad (Err number) c due is e = tt
usage_bad (Ok p) c due is e = absurd (due_isnt_usage c.files.held c p due is e)

status_due : (plan : Result Plan ℕ) (due : Answer) (c : Call) (result wanted : Status) → (IsExcused wanted plan c → ⊥) → Outcome plan due c result → result ≡ wanted → status_of due ≡ wanted
status_due plan due c result wanted never out e =
    sym (not_excused result plan c (subst (λ s. IsExcused s plan c → ⊥) (sym e) never) due (status_is plan due c result out)) ∙ e

pub usage : (plan : Result Plan ℕ) (c : Call) (result : Status) → ComesOut plan c result → Exactly (result ≡ status.Usage) (AreBad plan) (IsExcused result plan c)
usage plan c result (due, is, out) = (
  λ e. usage_bad plan c due is (status_due plan due c result status.Usage (λ x. x) out e),
  λ bad. by_status due plan c result status.Usage (bad_by plan c due bad is) (status_is plan due c result out),
)

refused_by : (plan : Result Plan ℕ) (due : Answer) (c : Call) (result : Status) → Outcome plan due c result → Exactly (result ≡ status.Refused) (IsRefused due) (IsExcused result plan c)
refused_by plan due c result out = (
  λ e. refused_due due (status_due plan due c result status.Refused (λ x. x) out e),
  λ r. by_status due plan c result status.Refused (due_refused due r) (status_is plan due c result out),
)

pub refused : (plan : Result Plan ℕ) (c : Call) (result : Status) → ComesOut plan c result → ForDue plan c (λ due. Exactly (result ≡ status.Refused) (IsRefused due) (IsExcused result plan c))
refused plan c result (due, is, out) = (due, is, refused_by plan due c result out)

limit_by : (plan : Result Plan ℕ) (due : Answer) (c : Call) (result : Status) → Outcome plan due c result → Exactly (result ≡ status.Limit) (IsLimited due) (IsExcused result plan c)
limit_by plan due c result out = (
  λ e. limited_due due (status_due plan due c result status.Limit (λ x. x) out e),
  λ r. by_status due plan c result status.Limit (due_limited due r) (status_is plan due c result out),
)

pub limit : (plan : Result Plan ℕ) (c : Call) (result : Status) → ComesOut plan c result → ForDue plan c (λ due. Exactly (result ≡ status.Limit) (IsLimited due) (IsExcused result plan c))
limit plan c result (due, is, out) = (due, is, limit_by plan due c result out)

unread_by : (plan : Result Plan ℕ) (due : Answer) (c : Call) (result : Status) → (result ≡ status_of due) ⊎ IsExcused result plan c → result ≡ status.ReadFault → IsUnreadable due ⊎ IsFailedRead plan c
unread_by plan due c result (inl e) r = inl (unreadable_due due (sym e ∙ r))
unread_by plan due c result (inr x) r = inr (subst (λ s. IsExcused s plan c) r x)

read_fault_by : (plan : Result Plan ℕ) (due : Answer) (c : Call) (result : Status) → Outcome plan due c result → (result ≡ status.ReadFault → IsUnreadable due ⊎ IsFailedRead plan c) × (IsUnreadable due → (result ≡ status.ReadFault) ⊎ IsExcused result plan c)
read_fault_by plan due c result out = (
  λ r. unread_by plan due c result (status_is plan due c result out) r,
  λ u. by_status due plan c result status.ReadFault (due_unreadable due u) (status_is plan due c result out),
)

pub read_fault : (plan : Result Plan ℕ) (c : Call) (result : Status) → ComesOut plan c result → ForDue plan c (λ due. (result ≡ status.ReadFault → IsUnreadable due ⊎ IsFailedRead plan c) × (IsUnreadable due → (result ≡ status.ReadFault) ⊎ IsExcused result plan c))
read_fault plan c result (due, is, out) = (due, is, read_fault_by plan due c result out)

no_write_fault : (due : Answer) → status.WriteFault ≡ status_of due → ⊥
no_write_fault (Usage n) e = let h : status.WriteFault ≡ status.Usage = e in cc
no_write_fault (Unreadable log name) e = let h : status.WriteFault ≡ status.ReadFault = e in cc
no_write_fault (Refused log fault) e = let h : status.WriteFault ≡ status.Refused = e in cc
no_write_fault (Unbuilt log place) e = let h : status.WriteFault ≡ status.Refused = e in cc
no_write_fault (Limited log hit) e = let h : status.WriteFault ≡ status.Limit = e in cc
no_write_fault (RefusedByFindings log unit) e = let h : status.WriteFault ≡ status.Refused = e in cc
no_write_fault (Written log delivery) e = let h : status.WriteFault ≡ status.Written = e in cc

write_fault_by : (plan : Result Plan ℕ) (due : Answer) (c : Call) (result : Status) → Outcome plan due c result → result ≡ status.WriteFault → PutFailed due c
write_fault_by plan due c result (as_due text is counts (all_put r e o)) w = absurd (no_write_fault due (sym w ∙ r))
write_fault_by plan due c result (as_due text is counts (err_failed r rose e o)) w = inl (rose, o)
write_fault_by plan due c result (as_due text is counts (out_failed r rose e o ne)) w =
    let d = written_only due text is ne in inr (rose, e, d.0, d.1, d.2, text, d.3, o)
write_fault_by plan due c result (no_memory p pl r o e) w = absurd (let h : status.WriteFault ≡ status.NoMemory = sym w ∙ r in cc)
write_fault_by plan due c result (failed_read p pl file log f (all_put r e o)) w = absurd (let h : status.WriteFault ≡ status.ReadFault = sym w ∙ r in cc)
write_fault_by plan due c result (failed_read p pl file log f (err_failed r rose e o)) w = inl (rose, o)
write_fault_by plan due c result (failed_read p pl file log f (out_failed r rose e o ne)) w = absurd (ne refl)

pub write_fault : (plan : Result Plan ℕ) (c : Call) (result : Status) → ComesOut plan c result → result ≡ status.WriteFault → ForDue plan c (λ due. PutFailed due c)
write_fault plan c result (due, is, out) w = (due, is, write_fault_by plan due c result out w)

no_memory_due : (due : Answer) → status.NoMemory ≡ status_of due → ⊥
no_memory_due (Usage n) e = let h : status.NoMemory ≡ status.Usage = e in cc
no_memory_due (Unreadable log name) e = let h : status.NoMemory ≡ status.ReadFault = e in cc
no_memory_due (Refused log fault) e = let h : status.NoMemory ≡ status.Refused = e in cc
no_memory_due (Unbuilt log place) e = let h : status.NoMemory ≡ status.Refused = e in cc
no_memory_due (Limited log hit) e = let h : status.NoMemory ≡ status.Limit = e in cc
no_memory_due (RefusedByFindings log unit) e = let h : status.NoMemory ≡ status.Refused = e in cc
no_memory_due (Written log delivery) e = let h : status.NoMemory ≡ status.Written = e in cc

memory_by : (plan : Result Plan ℕ) (due : Answer) (c : Call) (result : Status) → Outcome plan due c result → result ≡ status.NoMemory → AreRead plan × NothingOnOut c × NothingOnErr c
memory_by plan due c result (as_due text is counts (all_put r e o)) m = absurd (no_memory_due due (sym m ∙ r))
memory_by plan due c result (as_due text is counts (err_failed r rose e o)) m = absurd (let h : status.NoMemory ≡ status.WriteFault = sym m ∙ r in cc)
memory_by plan due c result (as_due text is counts (out_failed r rose e o ne)) m = absurd (let h : status.NoMemory ≡ status.WriteFault = sym m ∙ r in cc)
memory_by plan due c result (no_memory p pl r o e) m = (are_read plan p pl, o, e)
memory_by plan due c result (failed_read p pl file log f (all_put r e o)) m = absurd (let h : status.NoMemory ≡ status.ReadFault = sym m ∙ r in cc)
memory_by plan due c result (failed_read p pl file log f (err_failed r rose e o)) m = absurd (let h : status.NoMemory ≡ status.WriteFault = sym m ∙ r in cc)
memory_by plan due c result (failed_read p pl file log f (out_failed r rose e o ne)) m = absurd (ne refl)

pub memory : (plan : Result Plan ℕ) (c : Call) (result : Status) → ComesOut plan c result → result ≡ status.NoMemory → AreRead plan × NothingOnOut c × NothingOnErr c
memory plan c result (due, is, out) m = memory_by plan due c result out m

-- what is due to be written is written

complete_by : (plan : Result Plan ℕ) (due : Answer) (c : Call) (result : Status) → Outcome plan due c result → IsWritten due → NoFault c → (result ≡ status.Written) ⊎ (result ≡ status.NoMemory)
complete_by plan due c result (as_due text is counts (all_put r e o)) (log, delivery, w) none = inl (r ∙ ap status_of w)
complete_by plan due c result (as_due text is counts (err_failed r rose e o)) w none = absurd (none.err rose)
complete_by plan due c result (as_due text is counts (out_failed r rose e o ne)) w none = absurd (none.out rose)
complete_by plan due c result (no_memory p pl r o e) w none = inr r
complete_by plan due c result (failed_read p pl file log f sent) w none = absurd (none.read f.rose)

pub complete : (plan : Result Plan ℕ) (c : Call) (result : Status) → ComesOut plan c result → ForDue plan c (λ due. IsWritten due → NoFault c → (result ≡ status.Written) ⊎ (result ≡ status.NoMemory))
complete plan c result (due, is, out) = (due, is, complete_by plan due c result out)

-- all of these of one answer

pub meets : (plan : Result Plan ℕ) (c : Call) (result : Status) → ComesOut plan c result → ForDue plan c (λ due. Meets result plan due c)
meets plan c result (due, is, out) = (
  due,
  is,
  record {
    written = λ w. written_by plan due c result out w;
    err = err_by plan due c result out;
    refused = refused_by plan due c result out;
    read_fault = read_fault_by plan due c result out;
    write_fault = λ w. write_fault_by plan due c result out w;
    limit = limit_by plan due c result out;
    complete = λ w none. complete_by plan due c result out w none;
  },
)

-- nothing on out otherwise

out_by : (plan : Result Plan ℕ) (due : Answer) (c : Call) (result : Status) → Outcome plan due c result → result ≢ status.Written → result ≢ status.WriteFault → NothingOnOut c
out_by plan due c result (as_due text is counts (all_put r e o)) nw nf = due_puts_nothing due text c (λ w. nw (r ∙ w)) is o
out_by plan due c result (as_due text is counts (err_failed r rose e o)) nw nf = o
out_by plan due c result (as_due text is counts (out_failed r rose e o ne)) nw nf = absurd (nf r)
out_by plan due c result (no_memory p pl r o e) nw nf = o
out_by plan due c result (failed_read p pl file log f (all_put r e o)) nw nf = nothing_put [] c refl o
out_by plan due c result (failed_read p pl file log f (err_failed r rose e o)) nw nf = o
out_by plan due c result (failed_read p pl file log f (out_failed r rose e o ne)) nw nf = absurd (ne refl)

pub out : (plan : Result Plan ℕ) (c : Call) (result : Status) → ComesOut plan c result → result ≢ status.Written → result ≢ status.WriteFault → NothingOnOut c
out plan c result (due, is, comes) = out_by plan due c result comes

-- a read for each name

all_reads_by : (plan : Result Plan ℕ) (due : Answer) (c : Call) (result : Status) → Outcome plan due c result → result ≢ status.NoMemory → (ReadFailed c → ⊥) → ReadsAll plan c
all_reads_by plan due c result (as_due text is counts sent) nm nf = counts
all_reads_by plan due c result (no_memory p pl r o e) nm nf = absurd (nm r)
all_reads_by plan due c result (failed_read p pl file log f sent) nm nf = absurd (nf f.rose)

pub all_reads : (plan : Result Plan ℕ) (c : Call) (result : Status) → ComesOut plan c result → result ≢ status.NoMemory → (ReadFailed c → ⊥) → ReadsAll plan c
all_reads plan c result (due, is, comes) = all_reads_by plan due c result comes
