-- Lines put together from the left.
use Rattle.std.proofs.Common.{◌≡◌, ℕ, zero, suc, ◌+◌, ◌-◌, ◌≤◌, ◌<◌, Bool, true, false, not, ◌&&◌, List, [], ◌∷◌, ◌++◌, take, drop, length, slice_get, Some, refl, ap, sym, ◌∙◌, cond, arith, append_assoc, subst, codes}
use Rattle.model_macros.specs.Macros.{spells}
use Rattle.model_macros.specs.ReplacementLists.{HASH}
use Rattle.std.proofs.lemmas.List.{drop-drop}
use Rattle.std.specs.List.{prefix_len}
use Rattle.cake_base.specs.declared.places.Place.{Place}
use Rattle.model_tokens.specs.declared.tokens.PpKind.{PpKind}
use Rattle.model_tokens.specs.declared.tokens.PpKind.TheVariants.{Header, Name, Number, Character, Text, Punct, Other}
use Rattle.model_preprocessing.specs.declared.directives.LineKind.{LineKind}
use Rattle.model_preprocessing.specs.declared.directives.LineKind.TheVariants as line
use Rattle.model_tokens.specs.PpTokens.{PpToken}
use Rattle.model_preprocessing.specs.Directives.{Part, part, directive, named_kind, kind_after, is_text, joined, lines, with_first, with_line, parts_of_lines}
use Rattle.pp_lines.specs.Parts.{continues, line_length, added, added_line}
use Rattle.pp_lines.proofs.RankLaws.{at_rank-plus, at_rank}
use Rattle.model_types.specs.Texts.{same_text}

-- ---- ranges

pub take-range : (xs : List PpToken) (from to : ℕ) (x : PpToken) → slice_get xs from ≡ Some x → from < to → take (to - from) (drop from xs) ≡ x ∷ take (to - (from + 1)) (drop (from + 1) xs)
take-range xs from to x here h =
    let e : to - from ≡ suc (to - (from + 1)) = omega arith in
    ap (λ (n : ℕ). take n (drop from xs)) e ∙ ap (take (suc (to - (from + 1)))) (at_rank-plus xs from x here)

pub range-step : (xs : List PpToken) (from to : ℕ) (x y : PpToken) (front more whole : List PpToken) → slice_get xs from ≡ Some x → from < to → y ≡ x → more ≡ front ++ y ∷ [] →
    front ++ take (to - from) (drop from xs) ≡ whole → more ++ take (to - (from + 1)) (drop (from + 1) xs) ≡ whole
range-step xs from to x y front more whole here h same added so_far =
    let rest : List PpToken = take (to - (from + 1)) (drop (from + 1) xs) in
    ap (λ z. z ++ rest) added ∙ append_assoc front (y ∷ []) rest ∙ ap (λ z. front ++ z ∷ rest) same
    ∙ ap (λ z. front ++ z) (sym (take-range xs from to x here h)) ∙ so_far

-- ---- the first line

pub lines-first : (t : PpToken) (ts : List PpToken) → lines (t ∷ ts) ≡ (t ∷ take (prefix_len continues ts) ts) ∷ lines (drop (prefix_len continues ts) ts)
lines-first t [] = refl
lines-first t (u ∷ us) =
    let k : ℕ = prefix_len continues us in
    elim u.first as (λ f. cond f ((t ∷ []) ∷ lines (u ∷ us)) (with_first t (lines (u ∷ us))) ≡ (t ∷ take (cond (not f) (1 + k) 0) (u ∷ us)) ∷ lines (drop (cond (not f) (1 + k) 0) (u ∷ us))) [
      | true ↦ refl
      | false ↦ let e : suc k ≡ 1 + k = omega arith in
          ap (with_first t) (lines-first u us) ∙ ap (λ (n : ℕ). (t ∷ take n (u ∷ us)) ∷ lines (drop n (u ∷ us))) e
    ]

pub line-length-front : (toks : List PpToken) (from : ℕ) → from < length toks → suc from + prefix_len continues (drop (suc from) toks) ≡ from + line_length (drop from toks)
line-length-front [] from h = absurd (omega arith)
line-length-front (t ∷ ts) zero h = omega arith
line-length-front (t ∷ ts) (suc n) h =
    let k : n < length ts = omega arith in let r = line-length-front ts n k in omega (arith, r)

-- a line at its ranks, before the lines after it
pub line-at : (toks : List PpToken) (from : ℕ) (t : PpToken) → slice_get toks from ≡ Some t →
    lines (drop from toks) ≡ take (line_length (drop from toks)) (drop from toks) ∷ lines (drop (line_length (drop from toks)) (drop from toks))
line-at toks from t here =
    let d : drop from toks ≡ t ∷ drop (suc from) toks = at_rank toks from t here in
    let P : List PpToken → Type 0 = λ z. lines z ≡ take (line_length z) z ∷ lines (drop (line_length z) z) in
    subst P (sym d) (lines-first t (drop (suc from) toks))

-- ---- parts

record NoText (k : LineKind) : Type 0 where
  is : is_text k ≡ false

no_text_if : (b : Bool) (k l : LineKind) → NoText k → NoText l → NoText (cond b k l)
no_text_if true k l h i = h
no_text_if false k l h i = i

named_no_text : (name : List ℕ) → NoText (named_kind name)
named_no_text name =
    no_text_if (same_text name (codes "if")) line.If _ (record { is = refl }) (
    no_text_if (same_text name (codes "ifdef")) line.Ifdef _ (record { is = refl }) (
    no_text_if (same_text name (codes "ifndef")) line.Ifndef _ (record { is = refl }) (
    no_text_if (same_text name (codes "elif")) line.Elif _ (record { is = refl }) (
    no_text_if (same_text name (codes "elifdef")) line.Elifdef _ (record { is = refl }) (
    no_text_if (same_text name (codes "elifndef")) line.Elifndef _ (record { is = refl }) (
    no_text_if (same_text name (codes "else")) line.Else _ (record { is = refl }) (
    no_text_if (same_text name (codes "endif")) line.Endif _ (record { is = refl }) (
    no_text_if (same_text name (codes "include")) line.Include _ (record { is = refl }) (
    no_text_if (same_text name (codes "embed")) line.Embed _ (record { is = refl }) (
    no_text_if (same_text name (codes "define")) line.Define _ (record { is = refl }) (
    no_text_if (same_text name (codes "undef")) line.Undef _ (record { is = refl }) (
    no_text_if (same_text name (codes "line")) line.Line _ (record { is = refl }) (
    no_text_if (same_text name (codes "error")) line.Error _ (record { is = refl }) (
    no_text_if (same_text name (codes "warning")) line.Warning _ (record { is = refl }) (
    no_text_if (same_text name (codes "pragma")) line.Pragma _ (record { is = refl }) (
    record { is = refl }))))))))))))))))

after_no_text : (t : PpToken) (k : PpKind) → is_text (kind_after t k) ≡ false
after_no_text t Name = (named_no_text t.spelling).is
after_no_text t Number = refl
after_no_text t Header = refl
after_no_text t Character = refl
after_no_text t Text = refl
after_no_text t Punct = refl
after_no_text t Other = refl

pub directive-no-text : (at : Place) (ts : List PpToken) → is_text (directive at ts).kind ≡ false
directive-no-text at [] = refl
directive-no-text at (t ∷ ts) = after_no_text t t.kind

both : (d p : Part) → is_text p.kind ≡ false → (is_text d.kind && is_text p.kind) ≡ false
both d p h = elim (is_text d.kind) as (λ b. (b && is_text p.kind) ≡ false) [ true ↦ h | false ↦ refl ]

-- a directive comes last as it is
pub added-directive : (ds : List Part) (p : Part) → is_text p.kind ≡ false → added ds p ≡ ds ++ p ∷ []
added-directive [] p h = refl
added-directive (d ∷ []) p h =
    let text : Part = record d { tokens = d.tokens ++ p.tokens } in ap (λ b. cond b (text ∷ []) (d ∷ p ∷ [])) (both d p h)
added-directive (d ∷ (e ∷ ds)) p h = ap (λ z. d ∷ z) (added-directive (e ∷ ds) p h)

-- only the last part matters for the next
pub added-last : (front : List Part) (d p : Part) → added (front ++ d ∷ []) p ≡ front ++ added (d ∷ []) p
added-last [] d p = refl
added-last (x ∷ []) d p = refl
added-last (x ∷ (y ∷ front)) d p = ap (λ z. x ∷ z) (added-last (y ∷ front) d p)

-- ---- all parts

-- the parts before others that follow them
abbrev pub all_joined : List Part → List Part → List Part
all_joined [] ps = ps
all_joined (d ∷ ds) ps = joined d (all_joined ds ps)

-- no run of text follows another
abbrev pub Settled : List Part → Type 0
Settled [] = Unit {0}
Settled (d ∷ []) = Unit {0}
Settled (d ∷ (e ∷ ds)) = ((is_text d.kind && is_text e.kind) ≡ false) × Settled (e ∷ ds)

apart : (d e : Part) (ps : List Part) → (is_text d.kind && is_text e.kind) ≡ false → joined d (e ∷ ps) ≡ d ∷ e ∷ ps
apart d e ps h = let text : Part = record d { tokens = d.tokens ++ e.tokens } in ap (λ b. cond b (text ∷ ps) (d ∷ e ∷ ps)) h

-- two runs and what follows
runs-joined : (d p : Part) (ps : List Part) → is_text d.kind ≡ true → is_text p.kind ≡ true → joined (record d { tokens = d.tokens ++ p.tokens }) ps ≡ joined d (joined p ps)
runs-joined d p [] h i =
    let text : Part = record d { tokens = d.tokens ++ p.tokens } in
    let t : (is_text d.kind && is_text p.kind) ≡ true = ap (λ b. b && is_text p.kind) h ∙ i in
    sym (ap (λ b. cond b (text ∷ []) (d ∷ p ∷ [])) t)
runs-joined d p (q ∷ qs) h i =
    elim (is_text q.kind) as (λ b. is_text q.kind ≡ b → joined (record d { tokens = d.tokens ++ p.tokens }) (q ∷ qs) ≡ joined d (joined p (q ∷ qs))) [
      | true ↦ λ j.
          let one : Part = record d { tokens = (d.tokens ++ p.tokens) ++ q.tokens } in
          let two : Part = record p { tokens = p.tokens ++ q.tokens } in
          let all : Part = record d { tokens = d.tokens ++ (p.tokens ++ q.tokens) } in
          let first : (is_text d.kind && is_text q.kind) ≡ true = ap (λ b. b && is_text q.kind) h ∙ j in
          let second : (is_text p.kind && is_text q.kind) ≡ true = ap (λ b. b && is_text q.kind) i ∙ j in
          let third : (is_text d.kind && is_text p.kind) ≡ true = ap (λ b. b && is_text p.kind) h ∙ i in
          ap (λ b. cond b (one ∷ qs) (record d { tokens = d.tokens ++ p.tokens } ∷ q ∷ qs)) first
          ∙ ap (λ (z : List PpToken). let r : Part = record d { tokens = z } in r ∷ qs) (append_assoc d.tokens p.tokens q.tokens)
          ∙ sym (ap (λ b. cond b (all ∷ qs) (d ∷ two ∷ qs)) third)
          ∙ sym (ap (λ b. joined d (cond b (two ∷ qs) (p ∷ q ∷ qs))) second)
      | false ↦ λ j.
          let text : Part = record d { tokens = d.tokens ++ p.tokens } in
          let third : (is_text d.kind && is_text p.kind) ≡ true = ap (λ b. b && is_text p.kind) h ∙ i in
          apart text q qs (both text q j) ∙ sym (ap (λ b. cond b (text ∷ q ∷ qs) (d ∷ p ∷ q ∷ qs)) third) ∙ sym (ap (joined d) (apart p q qs (both p q j)))
    ] refl

one-added : (d p : Part) (ps : List Part) → all_joined (added (d ∷ []) p) ps ≡ joined d (joined p ps)
one-added d p ps =
    let text : Part = record d { tokens = d.tokens ++ p.tokens } in
    elim (is_text d.kind) as (λ b. is_text d.kind ≡ b → all_joined (cond (b && is_text p.kind) (text ∷ []) (d ∷ p ∷ [])) ps ≡ joined d (joined p ps)) [
      | true ↦ λ h. elim (is_text p.kind) as (λ b. is_text p.kind ≡ b → all_joined (cond b (text ∷ []) (d ∷ p ∷ [])) ps ≡ joined d (joined p ps)) [
        | true ↦ λ i. runs-joined d p ps h i
        | false ↦ λ i. refl
      ] refl
      | false ↦ λ h. refl
    ] refl

pub joined-added : (ds : List Part) (p : Part) (ps : List Part) → all_joined (added ds p) ps ≡ all_joined ds (joined p ps)
joined-added [] p ps = refl
joined-added (d ∷ []) p ps = one-added d p ps
joined-added (d ∷ (e ∷ ds)) p ps = ap (joined d) (joined-added (e ∷ ds) p ps)

joined-line : (ds : List Part) (l : List PpToken) (ps : List Part) → all_joined (added_line ds l) ps ≡ all_joined ds (with_line l ps)
joined-line ds [] ps = refl
joined-line ds (t ∷ ts) ps = joined-added ds (part t ts) ps

pub settled-all : (ds : List Part) → Settled ds → all_joined ds [] ≡ ds
settled-all [] s = refl
settled-all (d ∷ []) s = refl
settled-all (d ∷ (e ∷ ds)) s = ap (joined d) (settled-all (e ∷ ds) s.1) ∙ apart d e ds s.0

headed : (d : Part) (ds : List Part) (p : Part) → Settled (d ∷ ds) → (e : Part) × (es : List Part) × (added (d ∷ ds) p ≡ e ∷ es) × (is_text e.kind ≡ is_text d.kind)
headed d [] p s =
    elim (is_text d.kind && is_text p.kind) as (λ b. let text : Part = record d { tokens = d.tokens ++ p.tokens } in
    (e : Part) × (es : List Part) × (cond b (text ∷ []) (d ∷ p ∷ []) ≡ e ∷ es) × (is_text e.kind ≡ is_text d.kind)) [
      | true ↦ (record d { tokens = d.tokens ++ p.tokens }, [], refl, refl)
      | false ↦ (d, p ∷ [], refl, refl)
    ]
headed d (e ∷ ds) p s = (d, added (e ∷ ds) p, refl, refl)

settled-one : (d p : Part) → Settled (added (d ∷ []) p)
settled-one d p =
    let text : Part = record d { tokens = d.tokens ++ p.tokens } in
    elim (is_text d.kind && is_text p.kind) as (λ b. (is_text d.kind && is_text p.kind) ≡ b → Settled (cond b (text ∷ []) (d ∷ p ∷ []))) [
      | true ↦ λ h. tt
      | false ↦ λ h. (h, tt)
    ] refl

pub settled-added : (ds : List Part) (p : Part) → Settled ds → Settled (added ds p)
settled-added [] p s = tt
settled-added (d ∷ []) p s = settled-one d p
settled-added (d ∷ (e ∷ ds)) p s =
    let h = headed e ds p s.1 in
    let rest : Settled (h.0 ∷ h.1) = subst Settled h.2 (settled-added (e ∷ ds) p s.1) in
    let whole : Settled (d ∷ h.0 ∷ h.1) = (ap (λ b. is_text d.kind && b) h.3 ∙ s.0, rest) in
    subst (λ z. Settled (d ∷ z)) (sym h.2) whole

settled-line : (ds : List Part) (l : List PpToken) → Settled ds → Settled (added_line ds l)
settled-line ds [] s = s
settled-line ds (t ∷ ts) s = settled-added ds (part t ts) s

-- one line more
pub line-joined : (toks : List PpToken) (from to : ℕ) (t : PpToken) (ds es whole : List Part) → slice_get toks from ≡ Some t → to ≡ from + line_length (drop from toks) →
    es ≡ added_line ds (take (to - from) (drop from toks)) → all_joined ds (parts_of_lines (lines (drop from toks))) ≡ whole → all_joined es (parts_of_lines (lines (drop to toks))) ≡ whole
line-joined toks from to t ds es whole here is new so_far =
    let n : ℕ = line_length (drop from toks) in
    let size : to - from ≡ n = omega (arith, is) in
    let rest : drop n (drop from toks) ≡ drop to toks = drop-drop n from toks ∙ ap (λ (k : ℕ). drop k toks) (omega (arith, is)) in
    let l : List PpToken = take n (drop from toks) in
    ap (λ z. all_joined z (parts_of_lines (lines (drop to toks)))) (new ∙ ap (λ (k : ℕ). added_line ds (take k (drop from toks))) size)
    ∙ joined-line ds l (parts_of_lines (lines (drop to toks)))
    ∙ ap (λ z. all_joined ds (with_line l (parts_of_lines (lines z)))) (sym rest)
    ∙ ap (λ z. all_joined ds (parts_of_lines z)) (sym (line-at toks from t here))
    ∙ so_far

pub line-settled : (ds es : List Part) (l : List PpToken) → es ≡ added_line ds l → Settled ds → Settled es
line-settled ds es l e s = subst Settled (sym e) (settled-line ds l s)

-- ---- a line at its ranks

pub length-init : (toks : List PpToken) (from : ℕ) → from < length toks → (from + 1) + prefix_len continues (drop (from + 1) toks) ≡ from + line_length (drop from toks)
length-init toks from h =
    let e : suc from ≡ from + 1 = omega arith in
    ap (λ (n : ℕ). n + prefix_len continues (drop n toks)) (sym e) ∙ line-length-front toks from h

counted : (t : PpToken) (ts : List PpToken) (b : Bool) → t.first ≡ b → prefix_len continues (t ∷ ts) ≡ cond (not b) (1 + prefix_len continues ts) 0
counted t ts b h = ap (λ f. cond (not f) (1 + prefix_len continues ts) 0) h

pub length-next : (toks : List PpToken) (at whole : ℕ) (t : PpToken) → slice_get toks at ≡ Some t → t.first ≡ false → at + prefix_len continues (drop at toks) ≡ whole →
    (at + 1) + prefix_len continues (drop (at + 1) toks) ≡ whole
length-next toks at whole t here f so_far =
    let d = ap (prefix_len continues) (at_rank-plus toks at t here) ∙ counted t (drop (at + 1) toks) false f in
    omega (arith, d, so_far)

pub length-done : (toks : List PpToken) (at whole : ℕ) (t : PpToken) → slice_get toks at ≡ Some t → t.first ≡ true → at + prefix_len continues (drop at toks) ≡ whole → at ≡ whole
length-done toks at whole t here f so_far =
    let d = ap (prefix_len continues) (at_rank-plus toks at t here) ∙ counted t (drop (at + 1) toks) true f in
    omega (arith, d, so_far)

pub directive-at : (toks : List PpToken) (at : Place) (from to : ℕ) (t : PpToken) → slice_get toks from ≡ Some t → from < to →
    directive at (take (to - from) (drop from toks)) ≡ record { kind = kind_after t t.kind; at = at; tokens = take (to - (from + 1)) (drop (from + 1) toks) }
directive-at toks at from to t here h = ap (directive at) (take-range toks from to t here h)

-- the run at the end takes more tokens
pub run-taken : (parts rest : List Part) (last : Part) (at : Place) (ts : List PpToken) → parts ≡ rest ++ last ∷ [] → is_text last.kind ≡ true →
    added parts (record { kind = line.Text; at = at; tokens = ts }) ≡ rest ++ record last { tokens = last.tokens ++ ts } ∷ []
run-taken parts rest last at ts e h =
    let p : Part = record { kind = line.Text; at = at; tokens = ts } in
    let text : Part = record last { tokens = last.tokens ++ ts } in
    let b : (is_text last.kind && true) ≡ true = ap (λ b. b && true) h in
    ap (λ z. added z p) e ∙ added-last rest last p ∙ ap (λ b. rest ++ cond b (text ∷ []) (last ∷ p ∷ [])) b

pub run-begun : (parts rest all : List Part) (last run : Part) (at : Place) (ts : List PpToken) → parts ≡ rest ++ last ∷ [] → is_text last.kind ≡ false → all ≡ rest ++ last ∷ [] →
    run ≡ record { kind = line.Text; at = at; tokens = [] } → added parts (record { kind = line.Text; at = at; tokens = ts }) ≡ all ++ record run { tokens = run.tokens ++ ts } ∷ []
run-begun parts rest all last run at ts e h a r =
    let p : Part = record { kind = line.Text; at = at; tokens = ts } in
    let text : Part = record last { tokens = last.tokens ++ ts } in
    let b : (is_text last.kind && true) ≡ false = ap (λ b. b && true) h in
    ap (λ z. added z p) e ∙ added-last rest last p ∙ ap (λ b. rest ++ cond b (text ∷ []) (last ∷ p ∷ [])) b
    ∙ sym (append_assoc rest (last ∷ []) (p ∷ [])) ∙ ap (λ z. z ++ p ∷ []) (sym a)
    ∙ ap (λ (z : Part). let w : Part = record z { tokens = z.tokens ++ ts } in all ++ w ∷ []) (sym r)

-- a line of either kind
pub directive-added : (parts all : List Part) (toks : List PpToken) (from to : ℕ) (t : PpToken) (p : Part) → slice_get toks from ≡ Some t → from < to → spells HASH t ≡ true →
    p ≡ directive t.place (take (to - (from + 1)) (drop (from + 1) toks)) → all ≡ parts ++ p ∷ [] → all ≡ added_line parts (take (to - from) (drop from toks))
directive-added parts all toks from to t p here h hash is new =
    let rest : List PpToken = take (to - (from + 1)) (drop (from + 1) toks) in
    let text : Part = record { kind = line.Text; at = t.place; tokens = t ∷ rest } in
    let none : is_text p.kind ≡ false = ap (λ z. is_text z.kind) is ∙ directive-no-text t.place rest in
    new ∙ sym (added-directive parts p none) ∙ ap (added parts) is
    ∙ sym (ap (λ b. added parts (cond b (directive t.place rest) text)) hash)
    ∙ ap (added_line parts) (sym (take-range toks from to t here h))

pub text-added : (parts all : List Part) (toks : List PpToken) (from to : ℕ) (t : PpToken) → slice_get toks from ≡ Some t → from < to → spells HASH t ≡ false →
    all ≡ added parts (record { kind = line.Text; at = t.place; tokens = take (to - from) (drop from toks) }) → all ≡ added_line parts (take (to - from) (drop from toks))
text-added parts all toks from to t here h hash new =
    let rest : List PpToken = take (to - (from + 1)) (drop (from + 1) toks) in
    let text : Part = record { kind = line.Text; at = t.place; tokens = t ∷ rest } in
    new
    ∙ ap (λ (z : List PpToken). let p : Part = record { kind = line.Text; at = t.place; tokens = z } in added parts p) (take-range toks from to t here h)
    ∙ sym (ap (λ b. added parts (cond b (directive t.place rest) text)) hash)
    ∙ ap (added_line parts) (sym (take-range toks from to t here h))

-- ---- what the steps make

pub directive-made : (toks : List PpToken) (at : Place) (from to : ℕ) (t : PpToken) (k : LineKind) (list empty : List PpToken) → slice_get toks from ≡ Some t → from < to → k ≡ kind_after t t.kind → empty ≡ [] →
    list ≡ empty ++ take (to - (from + 1)) (drop (from + 1) toks) → record { kind = k; at = at; tokens = list } ≡ directive at (take (to - from) (drop from toks))
directive-made toks at from to t k list empty here h is none new =
    let all : List PpToken = take (to - (from + 1)) (drop (from + 1) toks) in
    ap (λ (z : LineKind). let r : Part = record { kind = z; at = at; tokens = list } in r) is
    ∙ ap (λ (z : List PpToken). let r : Part = record { kind = kind_after t t.kind; at = at; tokens = z } in r) (new ∙ ap (λ z. z ++ all) none)
    ∙ sym (directive-at toks at from to t here h)

pub directive-none : (toks : List PpToken) (at : Place) (from to : ℕ) (list : List PpToken) → to ≤ from → list ≡ [] →
    record { kind = line.Null; at = at; tokens = list } ≡ directive at (take (to - from) (drop from toks))
directive-none toks at from to list h none =
    let zero_left : to - from ≡ 0 = omega arith in
    ap (λ (z : List PpToken). let r : Part = record { kind = line.Null; at = at; tokens = z } in r) none ∙ sym (ap (λ (n : ℕ). directive at (take n (drop from toks))) zero_left)

at_exists : (toks : List PpToken) (n : ℕ) → n < length toks → (t : PpToken) × (slice_get toks n ≡ Some t)
at_exists [] n h = absurd (omega arith)
at_exists (t ∷ ts) zero h = (t, refl)
at_exists (t ∷ ts) (suc n) h = let k : n < length ts = omega arith in at_exists ts n k

pub line-added : (toks : List PpToken) (from to : ℕ) (ds es whole : List Part) → from < length toks → to ≡ from + line_length (drop from toks) →
    es ≡ added_line ds (take (to - from) (drop from toks)) → all_joined ds (parts_of_lines (lines (drop from toks))) ≡ whole → all_joined es (parts_of_lines (lines (drop to toks))) ≡ whole
line-added toks from to ds es whole h is new so_far = let t = at_exists toks from h in line-joined toks from to t.0 ds es whole t.1 is new so_far

pub past-end : {A : Type 0} (xs : List A) (n : ℕ) → length xs ≤ n → drop n xs ≡ []
past-end [] zero h = refl
past-end [] (suc n) h = refl
past-end (x ∷ xs) zero h = absurd (omega arith)
past-end (x ∷ xs) (suc n) h = let k : length xs ≤ n = omega arith in past-end xs n k

pub split-done : (toks : List PpToken) (from : ℕ) (ds : List Part) → length toks ≤ from → Settled ds → all_joined ds (parts_of_lines (lines (drop from toks))) ≡ parts_of_lines (lines toks) →
    ds ≡ parts_of_lines (lines toks)
split-done toks from ds h s so_far =
    sym (settled-all ds s) ∙ sym (ap (λ z. all_joined ds (parts_of_lines (lines z))) (past-end toks from h)) ∙ so_far
