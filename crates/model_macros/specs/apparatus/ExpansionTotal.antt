-- Replacement always gives an answer: each step takes a token from the list or from what may still be made.
use Rattle.std.proofs.Common.{◌≡◌, ℕ, zero, suc, ◌+◌, ◌-◌, ◌*◌, ◌<◌, ◌≤◌, ◌⊎◌, inl, inr, true, false, ◌&&◌, ◌==◌, nat_lt, max, List, [], ◌∷◌, ◌++◌, length, map, drop, length-drop, length-append, Option, Some, None, Ok, Err, refl, ap, sym, ◌∙◌, arith, cond, slice_get, slice_set}
use Rattle.std.proofs.lemmas.List.{length-map}
use Rattle.cake_base.specs.declared.places.Place.{Place}
use Rattle.model_macros.specs.HideSets.{holds}
use Rattle.model_macros.specs.Macros.{Macro, Macros, ranked, spells}
use Rattle.model_macros.specs.ReplacementLists.{RIGHT, deeper}
use Rattle.model_macros.specs.MacroDefinitions.{COMMA, names_of}
use Rattle.model_macros.specs.MacroArguments.{Painted, Run, Inside, in_front, inside, at_place, placed, onto, parts, is_nil, exact_arguments, variable_arguments, arguments, opens}
use Rattle.model_macros.specs.Substitution.{Argument, Use, unreplaced, written, written_of, with_run, with_replaced, variable_rank, uses, wanted, substituted}
use Rattle.model_macros.specs.Expansion.{Answer, MADE, Call, Expands, Fills}
use Rattle.model_macros.specs.apparatus.ExpansionRules.{breaks, passes, with_front, Fills-unpasted, Fills-past, Fills-body, Fills-other, Fills-stopped, Fills-next, Expands-nil, Stays, Stays-unknown, Stays-hidden, Stays-alone, object_call, Expands-object, Expands-open, function_call, Expands-count, Expands-call}

-- the tokens made, in either case
pub count : Answer → ℕ
count (Ok v) = v.1
count (Err e) = e.1

pub record Gives (table : Macros) (run : Run) (made : ℕ) : Type 0 where
  pub answer : Answer
  pub expands : Expands table run made answer
  pub grows : made ≤ count answer

pub record FillGives (table : Macros) (c : Call) (us : List Use) (args : List Argument) (made : ℕ) : Type 0 where
  pub answer : Answer
  pub fills : Fills table c us args made answer
  pub grows : made ≤ count answer

-- ---- lengths of a call

-- the tokens of the runs, and one for each run
abbrev pub weight : List Run → ℕ
weight [] = 0
weight (r ∷ rs) = suc (length r) + weight rs

in_front-some : (p : Painted) (o : Option Inside) (i : Inside) → in_front p o ≡ Some i → (j : Inside) × (o ≡ Some j) × (i ≡ record j { tokens = p ∷ j.tokens })
in_front-some p None i h = cc
in_front-some p (Some j) i h = (j, refl, cc)

pub inside-length : (depth : ℕ) (run : Run) (i : Inside) → inside depth run ≡ Some i → length i.tokens + length i.rest < length run
inside-length depth [] i = λ h. cc
inside-length depth (p ∷ ps) i =
    elim (spells RIGHT p.tok && depth == 0) as (λ t. cond t (Some (record { tokens = []; close = p; rest = ps })) (in_front p (inside (deeper depth p.tok) ps)) ≡ Some i → length i.tokens + length i.rest < suc (length ps)) [
      | true ↦ λ h. let q : record { tokens = []; close = p; rest = ps } ≡ i = cc in
          let e : length i.tokens + length i.rest ≡ 0 + length ps = ap (λ (z : Inside). length z.tokens + length z.rest) (sym q) in omega (arith, e)
      | false ↦ λ h. let q = in_front-some p (inside (deeper depth p.tok) ps) i h in
          let l = inside-length (deeper depth p.tok) ps q.0 q.1 in
          let e : length i.tokens + length i.rest ≡ suc (length q.0.tokens) + length q.0.rest = ap (λ (z : Inside). length z.tokens + length z.rest) q.2 in
          omega (arith, e, l)
    ]

parts-some : (commas depth : ℕ) (run : Run) → (r : Run) × (rs : List Run) × (parts commas depth run ≡ r ∷ rs)
parts-some commas depth [] = ([], [], refl)
parts-some commas depth (p ∷ ps) =
    let l = parts-some commas (deeper depth p.tok) ps in
    elim (spells COMMA p.tok && depth == 0 && nat_lt 0 commas) as (λ t. (r : Run) × (rs : List Run) × (cond t ([] ∷ parts (commas - 1) depth ps) (onto p (parts commas (deeper depth p.tok) ps)) ≡ r ∷ rs)) [
      | true ↦ ([], parts (commas - 1) depth ps, refl)
      | false ↦ (p ∷ l.0, l.1, ap (onto p) l.2)
    ]

onto-weight : (p : Painted) (rs : List Run) (x : Run) (xs : List Run) → rs ≡ x ∷ xs → weight (onto p rs) ≡ suc (weight rs)
onto-weight p [] x xs h = cc
onto-weight p (r ∷ rs) x xs h = omega arith

pub parts-weight : (commas depth : ℕ) (run : Run) → weight (parts commas depth run) ≤ suc (length run)
parts-weight commas depth [] = omega arith
parts-weight commas depth (p ∷ ps) =
    let one = parts-weight (commas - 1) depth ps in
    let two = parts-weight commas (deeper depth p.tok) ps in
    let l = parts-some commas (deeper depth p.tok) ps in
    let three = onto-weight p (parts commas (deeper depth p.tok) ps) l.0 l.1 l.2 in
    elim (spells COMMA p.tok && depth == 0 && nat_lt 0 commas) as (λ t. weight (cond t ([] ∷ parts (commas - 1) depth ps) (onto p (parts commas (deeper depth p.tok) ps))) ≤ suc (suc (length ps))) [
      | true ↦ omega (arith, one)
      | false ↦ omega (arith, two, three)
    ]

weight-append : (rs ss : List Run) → weight (rs ++ ss) ≡ weight rs + weight ss
weight-append [] ss = omega arith
weight-append (r ∷ rs) ss = let ih = weight-append rs ss in omega (arith, ih)

exact-weight : (names : ℕ) (run : Run) (rs : List Run) → exact_arguments names run ≡ Some rs → weight rs ≤ suc (length run)
exact-weight names run rs =
    elim (names == 0) as (λ t. cond t (cond (is_nil run) (Some []) None) (cond (length (parts (length run) 0 run) == names) (Some (parts (length run) 0 run)) None) ≡ Some rs → weight rs ≤ suc (length run)) [
      | true ↦ elim (is_nil run) as (λ t. cond t (Some []) None ≡ Some rs → weight rs ≤ suc (length run)) [
        | true ↦ λ h. let q : [] ≡ rs = cc in let e : weight rs ≡ 0 = ap weight (sym q) in omega (arith, e)
        | false ↦ λ h. cc
      ]
      | false ↦ elim (length (parts (length run) 0 run) == names) as (λ t. cond t (Some (parts (length run) 0 run)) None ≡ Some rs → weight rs ≤ suc (length run)) [
        | true ↦ λ h. let q : parts (length run) 0 run ≡ rs = cc in let e : weight rs ≡ weight (parts (length run) 0 run) = ap weight (sym q) in omega (arith, e, parts-weight (length run) 0 run)
        | false ↦ λ h. cc
      ]
    ]

variable-weight : (names : ℕ) (run : Run) (rs : List Run) → variable_arguments names run ≡ Some rs → weight rs ≤ suc (suc (length run))
variable-weight names run rs =
    let ps : List Run = parts names 0 run in
    let bound = parts-weight names 0 run in
    elim (length ps == names) as (λ t. cond t (Some (ps ++ [] ∷ [])) (cond (nat_lt names (length ps)) (Some ps) None) ≡ Some rs → weight rs ≤ suc (suc (length run))) [
      | true ↦ λ h. let q : ps ++ [] ∷ [] ≡ rs = cc in let e : weight rs ≡ weight (ps ++ [] ∷ []) = ap weight (sym q) in omega (arith, e, bound, weight-append ps ([] ∷ []))
      | false ↦ elim (nat_lt names (length ps)) as (λ t. cond t (Some ps) None ≡ Some rs → weight rs ≤ suc (suc (length run))) [
        | true ↦ λ h. let q : ps ≡ rs = cc in let e : weight rs ≡ weight ps = ap weight (sym q) in omega (arith, e, bound)
        | false ↦ λ h. cc
      ]
    ]

pub arguments-weight : (m : Macro) (run : Run) (rs : List Run) → arguments m run ≡ Some rs → weight rs ≤ suc (suc (length run))
arguments-weight m run rs =
    elim m.variadic as (λ t. cond t (variable_arguments (length (names_of m.params)) run) (exact_arguments (length (names_of m.params)) run) ≡ Some rs → weight rs ≤ suc (suc (length run))) [
      | true ↦ variable-weight (length (names_of m.params)) run rs
      | false ↦ λ h. let l = exact-weight (length (names_of m.params)) run rs h in omega (arith, l)
    ]

opens-length : (ps : Run) → opens ps ≡ true → 0 < length ps
opens-length [] h = cc
opens-length (p ∷ ps) h = omega arith

pub placed-length : (place : Place) (o : Option Inside) (i : Inside) → placed place o ≡ Some i → (j : Inside) × (o ≡ Some j) × (length i.tokens ≡ length j.tokens) × (i.rest ≡ j.rest)
placed-length place None i h = cc
placed-length place (Some j) i h =
    let q : record j { tokens = map (at_place place) j.tokens } ≡ i = cc in
    (j, refl, ap (λ (z : Inside). length z.tokens) (sym q) ∙ length-map j.tokens (at_place place), ap (λ (z : Inside). z.rest) (sym q))

-- a call takes its name, two parentheses and what stands between them
pub call-length : (place : Place) (ps : Run) (i : Inside) → opens ps ≡ true → placed place (inside 0 (drop 1 ps)) ≡ Some i → length i.tokens + length i.rest + 2 ≤ length ps
call-length place ps i opened h =
    let q = placed-length place (inside 0 (drop 1 ps)) i h in
    let l = inside-length 0 (drop 1 ps) q.0 q.1 in
    let e : length i.rest ≡ length q.0.rest = ap length q.3 in
    omega (arith, l, q.2, e, length-drop 1 ps, opens-length ps opened)

-- ---- arguments stay as written

pub written-light : (rs : List Run) (k : ℕ) → length (written (map unreplaced rs) k) ≤ weight rs
written-light [] k = omega arith
written-light (r ∷ rs) zero = omega arith
written-light (r ∷ rs) (suc k) = let ih = written-light rs k in omega (arith, ih)

written_of-with_run : (v : Run) (o : Option Argument) → written_of (Some (with_run v o)) ≡ written_of o
written_of-with_run v o = refl

set_written : (args : List Argument) (k j : ℕ) (a : Argument) → a.written ≡ written args k → written (slice_set args k a) j ≡ written args j
set_written [] k j a h = refl
set_written (x ∷ xs) zero zero a h = h
set_written (x ∷ xs) zero (suc j) a h = refl
set_written (x ∷ xs) (suc k) zero a h = refl
set_written (x ∷ xs) (suc k) (suc j) a h = set_written xs k j a h

pub written-with_replaced : (args : List Argument) (k j : ℕ) (v : Run) → written (with_replaced args k v) j ≡ written args j
written-with_replaced args k j v = set_written args k j (with_run v (slice_get args k)) refl

-- ---- each run has an answer

-- what is left of the work
abbrev pub remaining : ℕ → ℕ → ℕ
remaining made len = 2 * (MADE - made) + len

at_most : (made c : ℕ) → (MADE < made + c) ⊎ (made + c ≤ MADE)
at_most made c = elim (nat_lt MADE (made + c)) as (λ b. nat_lt MADE (made + c) ≡ b → (MADE < made + c) ⊎ (made + c ≤ MADE)) [
  | true ↦ λ h. inl (grind arith)
  | false ↦ λ h. inr (grind arith)
] refl

record Shorter (table : Macros) (n : ℕ) : Type 0 where
  gives : (run : Run) (made : ℕ) → remaining made (length run) < n → Gives table run made

body_total : (table : Macros) (n : ℕ) → Shorter table n → (c : Call) (args : List Argument) (made : ℕ) → remaining made (length c.rest) < n → FillGives table c [] args made
unfolding count
body_total table n ih c args made small =
    elim (substituted table.files c.name c.hides c.def args) as (λ o. substituted table.files c.name c.hides c.def args ≡ o → FillGives table c [] args made) [
      | None ↦ λ h. record { answer = breaks c.name.place 5 made; fills = Fills-unpasted table c args made h; grows = omega arith }
      | Some body ↦ λ h. elim (at_most made (max 1 (length body))) [
        | inl past ↦ record { answer = passes c.name.place made; fills = Fills-past table c args made body h past; grows = omega arith }
        | inr fits ↦ let q = ih.gives (body ++ c.rest) (made + max 1 (length body)) (omega (arith, length-append body c.rest)) in
            record { answer = q.answer; fills = Fills-body table c args made body (made + max 1 (length body)) q.answer h refl fits q.expands; grows = omega (arith, q.grows) }
      ]
    ] refl

fill_total : (table : Macros) (n : ℕ) → Shorter table n → (c : Call) (us : List Use) (args : List Argument) (made : ℕ) → remaining made (length c.rest) < n → ((k : ℕ) → remaining made (length (written args k)) < n) →
    FillGives table c us args made
unfolding count
fill_total table n ih c [] args made small each = body_total table n ih c args made small
fill_total table n ih c (u ∷ us) args made small each =
    elim (wanted args (variable_rank c.def) u) as (λ b. wanted args (variable_rank c.def) u ≡ b → FillGives table c (u ∷ us) args made) [
      | false ↦ λ h. let q = fill_total table n ih c us args made small each in
          record { answer = q.answer; fills = Fills-other table c u us args made q.answer h q.fills; grows = q.grows }
      | true ↦ λ h. let g = ih.gives (written args u.rank) made (each u.rank) in
          elim g.answer as (λ a. Expands table (written args u.rank) made a → made ≤ count a → FillGives table c (u ∷ us) args made) [
            | Err e ↦ λ x up. record { answer = Err e; fills = Fills-stopped table c u us args made e h x; grows = up }
            | Ok v ↦ λ x up.
                let q = fill_total table n ih c us (with_replaced args u.rank v.0) v.1 (omega (arith, small, up))
                (λ k. let e = written-with_replaced args u.rank k v.0 in let l : length (written (with_replaced args u.rank v.0) k) ≡ length (written args k) = ap length e in omega (arith, each k, l, up)) in
                record { answer = q.answer; fills = Fills-next table c u us args made v.0 v.1 q.answer h x q.fills; grows = omega (arith, up, q.grows) }
          ] g.expands g.grows
    ] refl

count-front : (xs : Run) (a : Answer) → count (with_front xs a) ≡ count a
unfolding count
count-front xs (Ok v) = refl
count-front xs (Err e) = refl

kept : (table : Macros) (p : Painted) (ps : Run) (made : ℕ) → Gives table ps made → Stays table p ps → Gives table (p ∷ ps) made
kept table p ps made g f = record { answer = with_front (p ∷ []) g.answer; expands = f.stays made g.answer g.expands; grows = rw (count-front (p ∷ []) g.answer) g.grows }

call_total : (table : Macros) (n : ℕ) → Shorter table n → (p : Painted) (ps : Run) (made r : ℕ) (m : Macro) (names : List (List ℕ)) → remaining made (length (p ∷ ps)) < suc n →
    ranked p.tok.spelling table.entries ≡ Some (r, m) → holds r p.hides ≡ false → m.params ≡ Some names → opens ps ≡ true → Gives table (p ∷ ps) made
unfolding count
call_total table n ih p ps made r m names small known shown kind opened =
    elim (placed p.tok.place (inside 0 (drop 1 ps))) as (λ o. placed p.tok.place (inside 0 (drop 1 ps)) ≡ o → Gives table (p ∷ ps) made) [
      | None ↦ λ h. record { answer = breaks p.tok.place 7 made; expands = Expands-open table p ps made r m names known shown kind opened h; grows = omega arith }
      | Some i ↦ λ h.
          let l = call-length p.tok.place ps i opened h in
          elim (arguments m i.tokens) as (λ o. arguments m i.tokens ≡ o → Gives table (p ∷ ps) made) [
            | None ↦ λ bad. record { answer = breaks p.tok.place 6 made; expands = Expands-count table p ps made r m names i known shown kind opened h bad; grows = omega arith }
            | Some runs ↦ λ good.
                let w = arguments-weight m i.tokens runs good in
                let q = fill_total table n ih (function_call p r m i) (uses m) (map unreplaced runs) made (omega (arith, l, small))
                (λ k. let e = written-light runs k in omega (arith, e, w, l, small)) in
                record { answer = q.answer; expands = Expands-call table p ps made r m names i runs q.answer known shown kind opened h good q.fills; grows = q.grows }
          ] refl
    ] refl

front : (table : Macros) (n : ℕ) → Shorter table n → (p : Painted) (ps : Run) (made : ℕ) → remaining made (length (p ∷ ps)) < suc n → Gives table (p ∷ ps) made
unfolding count
front table n ih p ps made small =
    let stay : Gives table ps made = ih.gives ps made (omega (arith, small)) in
    elim (ranked p.tok.spelling table.entries) as (λ o. ranked p.tok.spelling table.entries ≡ o → Gives table (p ∷ ps) made) [
      | None ↦ λ known. kept table p ps made stay (Stays-unknown table p ps known)
      | Some r ↦ λ known. elim (holds r.0 p.hides) as (λ b. holds r.0 p.hides ≡ b → Gives table (p ∷ ps) made) [
        | true ↦ λ hidden. kept table p ps made stay (Stays-hidden table p ps r.0 r.1 known hidden)
        | false ↦ λ shown. elim r.1.params as (λ q. r.1.params ≡ q → Gives table (p ∷ ps) made) [
          | None ↦ λ kind.
              let q = fill_total table n ih (object_call p r.0 r.1 ps) [] [] made (omega (arith, small)) (λ k. omega (arith, small)) in
              record { answer = q.answer; expands = Expands-object table p ps made r.0 r.1 q.answer known shown kind q.fills; grows = q.grows }
          | Some names ↦ λ kind. elim (opens ps) as (λ b. opens ps ≡ b → Gives table (p ∷ ps) made) [
            | false ↦ λ alone. kept table p ps made stay (Stays-alone table p ps r.0 r.1 names known shown kind alone)
            | true ↦ λ opened. call_total table n ih p ps made r.0 r.1 names small known shown kind opened
          ] refl
        ] refl
      ] refl
    ] refl

all_shorter : (table : Macros) (n : ℕ) → Shorter table n
unfolding count
all_shorter table zero = record { gives = λ run made h. absurd (omega (arith, h)) }
all_shorter table (suc n) = record {
  gives = λ run. elim run as (λ r. (made : ℕ) → remaining made (length r) < suc n → Gives table r made) [
    | [] ↦ λ made h. record { answer = Ok ([], made); expands = Expands-nil table made; grows = omega arith }
    | p ∷ ps ↦ λ made h. front table n (all_shorter table n) p ps made h
  ];
}

-- each run has an answer, with a count that has not fallen
pub Expands-total : (table : Macros) (run : Run) (made : ℕ) → Gives table run made
Expands-total table run made = (all_shorter table (suc (remaining made (length run)))).gives run made (omega arith)
