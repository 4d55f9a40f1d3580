-- Lines in turn, and the lines of files that are included.
use Rattle.std.proofs.Common.{◌≡◌, ℕ, zero, suc, ◌+◌, ◌-◌, ◌<◌, ◌≤◌, Bool, true, false, List, [], ◌∷◌, length, drop, slice_get, get_or, Option, Some, None, Result, Ok, Err, refl, ap, sym, ◌∙◌, subst, cond, arith}
use Rattle.std.specs.Option.{option_map}
use Rattle.std.proofs.lemmas.Option.{slice_get_read}
use Rattle.cake_base.specs.declared.places.Place.{Place}
use Rattle.cake_base.specs.declared.rules.Fault.{Fault}
use Rattle.cake_base.specs.Outside.{FilesView}
use Rattle.model_preprocessing.specs.declared.directives.LineKind.{LineKind}
use Rattle.model_preprocessing.specs.declared.directives.LineKind.TheVariants as line
use Rattle.model_preprocessing.specs.Directives.{Part}
use Rattle.model_preprocessing.specs.Conditionals.{Conditionals, is_translated, outermost}
use Rattle.model_preprocessing.specs.Includes.{HeaderName}
use Rattle.model_preprocessing.specs.Processes.{passed, Log, Process, gives, and_then}
use Rattle.model_preprocessing.specs.Sources.{State, Source, here}
use Rattle.model_preprocessing.specs.ConditionalLines.{Lines}
use Rattle.model_preprocessing.specs.Preprocessing.{line_of, all_lines, ended}
use Rattle.model_preprocessing.specs.FileSearch.{Found, searched}
use Rattle.model_preprocessing.specs.Included.{Deeper, Enter, header_of, all_candidates, entered, sought, include_line, lines_of, file_lines, translated, levels}
use Rattle.pp_directives.specs.declared.errors.PrepError.{PrepError}
use Rattle.pp_directives.specs.declared.errors.PrepError.TheVariants as prep_error
use Rattle.pp_directives.specs.Reads.{Reaches}
use Rattle.pp_directives.specs.Outcomes.{halted, Does, Stops, StopsUnread, Runs}
use Rattle.pp_directives.specs.Looks.{LimitIs}
use Rattle.pp_lines.proofs.RankLaws.{at_rank-plus}
use Rattle.pp_lines.proofs.SplitLaws.{past-end}
use Rattle.pp_directives.proofs.ReadLaws.{reaches-self, reaches-more, reaches-then, stops-after, runs-after, stops-then, does-runs}

-- ---- includes

levels-zero : (dirs : List (List ℕ)) (n : ℕ) → n ≡ 0 → levels dirs n ≡ None
unfolding levels
levels-zero dirs n e = ap (levels dirs) e

levels-more : (dirs : List (List ℕ)) (n : ℕ) → 0 < n → levels dirs n ≡ Some (translated (levels dirs (n - 1)) dirs)
unfolding levels
levels-more dirs n h = let e : n ≡ suc (n - 1) = omega arith in ap (levels dirs) e

include-is : (d : Deeper) (dirs : List (List ℕ)) (file : ℕ) (p : Part) (s u : State) (header : HeaderName) → header_of p s ≡ gives (header, u) →
    include_line d dirs file p s ≡ sought d dirs file (here s p.at) header u
include-is d dirs file p s u header h = ap (λ z. and_then z (λ v. sought d dirs file (here s p.at) v.0 v.1)) h

pub include-limit : (a : FilesView) (dirs : List (List ℕ)) (file : ℕ) (p : Part) (s u : State) (header : HeaderName) (at : Place) (n : ℕ) (e : PrepError) → header_of p s ≡ gives (header, u) →
    at ≡ here s p.at → n ≡ 0 → LimitIs at 3 e → Stops a a (include_line (levels dirs n) dirs file p s) e u.log
include-limit a dirs file p s u header at n e h there none is =
    let end : include_line (levels dirs n) dirs file p s ≡ halted (passed (record { place = at; limit = record { number = 3 } })) u.log =
    include-is (levels dirs n) dirs file p s u header h ∙ ap (λ d. sought d dirs file (here s p.at) header u) (levels-zero dirs n none)
    ∙ ap (λ (z : Place). let r : Process State = halted (passed (record { place = z; limit = record { number = 3 } })) u.log in r) (sym there) in
    subst (λ z. Stops a a (include_line (levels dirs n) dirs file p s) z u.log) (sym is) (reaches-self a _ _ end)

-- the file is searched, and its lines follow
deep : (dirs : List (List ℕ)) (file : ℕ) (p : Part) (s u : State) (header : HeaderName) (at : Place) (n : ℕ) → header_of p s ≡ gives (header, u) → at ≡ here s p.at → 0 < n →
    include_line (levels dirs n) dirs file p s ≡ and_then (searched at header.name (all_candidates dirs file header u) u) (entered (translated (levels dirs (n - 1)) dirs))
deep dirs file p s u header at n h there more =
    include-is (levels dirs n) dirs file p s u header h ∙ ap (λ d. sought d dirs file (here s p.at) header u) (levels-more dirs n more)
    ∙ ap (λ z. and_then (searched z header.name (all_candidates dirs file header u) u) (entered (translated (levels dirs (n - 1)) dirs))) (sym there)

module _ (a b c : FilesView) (dirs : List (List ℕ)) (file : ℕ) (p : Part) (s u : State) (header : HeaderName) (at : Place) (n : ℕ)
    (h : header_of p s ≡ gives (header, u)) (there : at ≡ here s p.at) (more : 0 < n) where
  pub include-err : (e : PrepError) (log : Log) → Stops a b (searched at header.name (all_candidates dirs file header u) u) e log → Stops a b (include_line (levels dirs n) dirs file p s) e log
  include-err e log x =
      subst (λ z. Stops a b z e log) (sym (deep dirs file p s u header at n h there more))
      (stops-then a b (searched at header.name (all_candidates dirs file header u) u) (entered (translated (levels dirs (n - 1)) dirs)) e log x)

  after_search : (v : Found) → Reaches a b (searched at header.name (all_candidates dirs file header u) u) (gives v) →
      Reaches a b (include_line (levels dirs n) dirs file p s) (entered (translated (levels dirs (n - 1)) dirs) v)
  after_search v x =
      subst (λ z. Reaches a b z (entered (translated (levels dirs (n - 1)) dirs) v)) (sym (deep dirs file p s u header at n h there more))
      (reaches-then a b (searched at header.name (all_candidates dirs file header u) u) (gives v) (entered (translated (levels dirs (n - 1)) dirs)) x)

  pub include-some : {T : Type 0} (found : ℕ) (u' : State) (r : Result T PrepError) (done : T → State) (log : Log) → Reaches a b (searched at header.name (all_candidates dirs file header u) u) (gives (Some found, u')) →
      Runs b c (translated (levels dirs (n - 1)) dirs found u') r done log → Runs a c (include_line (levels dirs n) dirs file p s) r done log
  include-some found u' r done log x y =
      runs-after a b c _ (translated (levels dirs (n - 1)) dirs found u') r done log (after_search (Some found, u') x) y

  pub include-none : (u' : State) → Reaches a b (searched at header.name (all_candidates dirs file header u) u) (gives (None, u')) → Reaches a b (include_line (levels dirs n) dirs file p s) (gives u')
  include-none u' x = after_search (None, u') x

-- ---- a line

abbrev pub on_done : {T : Type 0} → Conditionals → State → T → Lines
on_done opens u x = (opens, u)

abbrev pub on_gives : Conditionals → State → Process Lines
on_gives opens z = gives (opens, z)

on-runs : {T : Type 0} (a b : FilesView) (q : Process State) (opens : Conditionals) (u : State) (r : Result T PrepError) (log : Log) → Runs a b q r (λ x. u) log →
    Runs a b (and_then q (on_gives opens)) r (on_done opens u) log
on-runs a b q opens u (Ok value) log h = reaches-then a b q (gives u) (on_gives opens) h
on-runs a b q opens u (Err e) log h = stops-then a b q (on_gives opens) e log h

pub line-included : {T : Type 0} (a b : FilesView) (file : ℕ) (include : Part → State → Process State) (k : LineKind) (p : Part) (opens : Conditionals) (s u : State) (r : Result T PrepError) (log : Log) →
    k ≡ line.Include → is_translated opens ≡ true → Runs a b (include p s) r (λ x. u) log → Runs a b (line_of file include k p opens s) r (on_done opens u) log
line-included {T} a b file include k p opens s u r log kind taken h =
    let there : line_of file include k p opens s ≡ and_then (include p s) (on_gives opens) =
    ap (λ z. line_of file include z p opens s) kind ∙ ap (λ t. cond t (and_then (include p s) (on_gives opens)) (on_gives opens s)) taken in
    subst (λ z. Runs a b z r (on_done opens u) log) (sym there) (on-runs a b (include p s) opens u r log h)

-- ---- lines in turn

module _ (a b c : FilesView) (file : ℕ) (include : Part → State → Process State) (items : List Part) (opened0 opened : Conditionals) (s0 s : State) (n : ℕ) where
  at_line : (p : Part) → slice_get items n ≡ Some p → Reaches a b (all_lines file include items opened0 s0) (all_lines file include (drop n items) opened s) →
      Reaches a b (all_lines file include items opened0 s0) (and_then (line_of file include p.kind p opened s) (λ v. all_lines file include (drop (n + 1) items) v.0 v.1))
  at_line p here reached =
      reaches-more a b b _ (all_lines file include (drop n items) opened s) _ reached (reaches-self b _ _ (ap (λ z. all_lines file include z opened s) (at_rank-plus items n p here)))

  pub lines-err : (p : Part) (e : PrepError) (log : Log) → slice_get items n ≡ Some p → Reaches a b (all_lines file include items opened0 s0) (all_lines file include (drop n items) opened s) →
      Stops b c (line_of file include p.kind p opened s) e log → Stops a c (all_lines file include items opened0 s0) e log
  lines-err p e log here reached h =
      stops-after a b c _ (and_then (line_of file include p.kind p opened s) (λ v. all_lines file include (drop (n + 1) items) v.0 v.1)) e log (at_line p here reached)
      (stops-then b c (line_of file include p.kind p opened s) (λ v. all_lines file include (drop (n + 1) items) v.0 v.1) e log h)

  pub lines-next : (p : Part) (opened' : Conditionals) (s' : State) → slice_get items n ≡ Some p → Reaches a b (all_lines file include items opened0 s0) (all_lines file include (drop n items) opened s) →
      Reaches b c (line_of file include p.kind p opened s) (gives (opened', s')) → Reaches a c (all_lines file include items opened0 s0) (all_lines file include (drop (n + 1) items) opened' s')
  lines-next p opened' s' here reached h =
      reaches-more a b c _ (and_then (line_of file include p.kind p opened s) (λ v. all_lines file include (drop (n + 1) items) v.0 v.1)) _ (at_line p here reached)
      (reaches-then b c (line_of file include p.kind p opened s) (gives (opened', s')) (λ v. all_lines file include (drop (n + 1) items) v.0 v.1) h)

  pub lines-end : {T : Type 0} (r : Result T PrepError) (done : T → State) (log : Log) → length items ≤ n → Reaches a b (all_lines file include items opened0 s0) (all_lines file include (drop n items) opened s) →
      Does (ended s (outermost opened)) r done log → Runs a b (all_lines file include items opened0 s0) r done log
  lines-end r done log past reached h =
      runs-after a b b _ (all_lines file include (drop n items) opened s) r done log reached
      (subst (λ z. Runs b b z r done log) (sym (ap (λ z. all_lines file include z opened s) (past-end items n past))) (does-runs b (ended s (outermost opened)) r done log h))

pub item-read : (items : List Part) (n : ℕ) (p : Part) → n < length items → p ≡ get_or items n p → slice_get items n ≡ Some p
item-read items n p h e = slice_get_read items (length items) n p refl h e

-- ---- a file

pub file-found : (o : Option Source) (inc : Part → State → Process State) (file : ℕ) (s : State) (parts : List Part) → option_map (λ f. f.lines) o ≡ Some (Ok parts) → file_lines inc file s o ≡ all_lines file inc parts [] s
file-found None inc file s parts = λ h. cc
file-found (Some f) inc file s parts = λ h. let e : f.lines ≡ Ok parts = cc in ap (lines_of inc file s) e

pub translated-lines : (d : Deeper) (dirs : List (List ℕ)) (file : ℕ) (s : State) (parts items : List Part) (opened : Conditionals) → option_map (λ f. f.lines) (slice_get s.sources file) ≡ Some (Ok parts) → items ≡ parts → opened ≡ [] →
    translated d dirs file s ≡ all_lines file (include_line d dirs file) items opened s
translated-lines d dirs file s parts items opened there same none =
    file-found (slice_get s.sources file) (include_line d dirs file) file s parts there
    ∙ ap (λ z. all_lines file (include_line d dirs file) z [] s) (sym same) ∙ ap (λ z. all_lines file (include_line d dirs file) items z s) (sym none)
