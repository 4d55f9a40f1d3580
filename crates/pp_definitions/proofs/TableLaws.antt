-- The table as contracts see it, of entries whose keys have a text.
use Rattle.std.proofs.Common.{◌≡◌, ℕ, zero, suc, ◌+◌, ◌<◌, Bool, true, false, List, [], ◌∷◌, ◌++◌, map, length, drop, Option, Some, None, refl, ap, sym, ◌∙◌, arith, cond, not, ◌||◌, ◌&&◌, slice_get, nat_eq, Ok}
use Rattle.std.specs.List.{position}
use Rattle.std.specs.Option.{option_map, is_some}
use Rattle.std.specs.Map.{keys_of, lookup as lookup_by, remove_entry}
use Rattle.std.proofs.lemmas.List.{map-append}
use Rattle.model_macros.specs.Macros.{Macro, Macros, found, ranked, one_later, defines, without, same_names, with_file, same_definition, clashes, file_name}
use Rattle.indexmap.specs.IndexMap.{insert_entry}
use Rattle.pp_definitions.specs.Names.{same_at}
use Rattle.pp_definitions.specs.Answers.{Defines}
use Rattle.pp_definitions.proofs.NamesLaws.{position_first}
use Rattle.model_types.specs.Texts.{same_text}

abbrev pub seen : {K : Type 0} → (K → List ℕ) → List (K × Macro) → List (List ℕ × Macro)
seen text es = map (λ e. (text e.0, e.1)) es

pub found-lookup : {K : Type 0} (text : K → List ℕ) (name : List ℕ) (es : List (K × Macro)) → lookup_by (λ q. same_text name (text q)) es ≡ found name (seen text es)
found-lookup text name [] = refl
found-lookup text name (e ∷ es) = ap (λ o. cond (same_text name (text e.0)) (Some e.1) o) (found-lookup text name es)

-- ---- ranks

later_some : (o : Option ℕ) (i : ℕ) → option_map suc o ≡ Some i → (j : ℕ) × (i ≡ suc j) × (o ≡ Some j)
later_some None i h = cc
later_some (Some j) i h = (j, cc, refl)

pub ranked-some : {K : Type 0} (text : K → List ℕ) (name : List ℕ) (es : List (K × Macro)) (i : ℕ) (k : K) (d : Macro) →
    position (λ q. same_text name (text q)) (keys_of es) ≡ Some i → slice_get es i ≡ Some (k, d) → ranked name (seen text es) ≡ Some (i, d)
ranked-some text name [] i k d at is = cc
ranked-some {K} text name (e ∷ es) i k d at is =
    (elim (same_text name (text e.0)) as (λ t. cond t (Some 0) (option_map suc (position (λ q. same_text name (text q)) (keys_of es))) ≡ Some i → cond t (Some (0, e.1)) (one_later (ranked name (seen text es))) ≡ Some (i, d)) [
      | true ↦ λ h. let z : i ≡ 0 = cc in
          let is' : slice_get (e ∷ es) 0 ≡ Some (k, d) = ap (λ n. slice_get (e ∷ es) n) (sym z) ∙ is in
          let e1 : e.1 ≡ d = cc in
          cc
      | false ↦ λ h. let l = later_some (position (λ q. same_text name (text q)) (keys_of es)) i h in
          let is' : slice_get (e ∷ es) (suc l.0) ≡ Some (k, d) = ap (λ n. slice_get (e ∷ es) n) (sym l.1) ∙ is in
          let is2 : slice_get es l.0 ≡ Some (k, d) = grind arith in
          let m : one_later (ranked name (seen text es)) ≡ Some (suc l.0, d) = ap one_later (ranked-some text name es l.0 k d l.2 is2) in
          m ∙ ap (λ (n : ℕ). let q : Option (ℕ × Macro) = Some (n, d) in q) (sym l.1)
    ])
    (sym (position_first (λ q. same_text name (text q)) e.0 (keys_of es)) ∙ at)

pub ranked-none : {K : Type 0} (text : K → List ℕ) (name : List ℕ) (es : List (K × Macro)) → lookup_by (λ q. same_text name (text q)) es ≡ None → ranked name (seen text es) ≡ None
ranked-none text name [] = λ h. refl
ranked-none text name (e ∷ es) =
    elim (same_text name (text e.0)) as (λ t. cond t (Some e.1) (lookup_by (λ q. same_text name (text q)) es) ≡ None → cond t (Some (0, e.1)) (one_later (ranked name (seen text es))) ≡ None) [
      | true ↦ λ h. cc
      | false ↦ λ h. ap one_later (ranked-none text name es h)
    ]

-- ---- removal

pub defines-lookup : {K : Type 0} (text : K → List ℕ) (name : List ℕ) (es : List (K × Macro)) → is_some (lookup_by (λ q. same_text name (text q)) es) ≡ defines name (seen text es)
defines-lookup text name [] = refl
defines-lookup text name (e ∷ es) =
    elim (same_text name (text e.0)) as (λ t. is_some (cond t (Some e.1) (lookup_by (λ q. same_text name (text q)) es)) ≡ (t || defines name (seen text es))) [
      | true ↦ refl
      | false ↦ defines-lookup text name es
    ]

pub without-removed : {K : Type 0} (text : K → List ℕ) (name : List ℕ) (es : List (K × Macro)) → seen text (remove_entry (λ q. same_text name (text q)) es) ≡ without name (seen text es)
without-removed text name [] = refl
without-removed text name (e ∷ es) =
    elim (same_text name (text e.0)) as (λ t. seen text (cond t es (e ∷ remove_entry (λ q. same_text name (text q)) es)) ≡ cond t (seen text es) ((text e.0, e.1) ∷ without name (seen text es))) [
      | true ↦ refl
      | false ↦ ap (λ (z : List (List ℕ × Macro)). (text e.0, e.1) ∷ z) (without-removed text name es)
    ]

-- ---- insertion

pub insert-new : {K V : Type 0} (test : K → K → Bool) (es : List (K × V)) (k : K) (v : V) → lookup_by (test k) es ≡ None → insert_entry test es k v ≡ es ++ (k, v) ∷ []
insert-new test [] k v = λ h. refl
insert-new test (e ∷ es) k v =
    elim (test k e.0) as (λ t. cond t (Some e.1) (lookup_by (test k) es) ≡ None → cond t ((e.0, v) ∷ es) (e ∷ insert_entry test es k v) ≡ e ∷ (es ++ (k, v) ∷ [])) [
      | true ↦ λ h. cc
      | false ↦ λ h. ap (λ z. e ∷ z) (insert-new test es k v h)
    ]

-- ---- names, compared

same-nil : (i : ℕ) (xs : List (List ℕ)) → i < length xs → same_names (drop i xs) [] ≡ false
same-nil i [] h = absurd (omega (arith, h))
same-nil zero (x ∷ xs) h = refl
same-nil (suc i) (x ∷ xs) h = same-nil i xs (omega (arith, h))

same_at-none : (o : Option (List ℕ)) (b : Bool) → false ≡ (same_at o None && b)
same_at-none None b = refl
same_at-none (Some n) b = refl

pub same_names-step : (i : ℕ) (xs ys : List (List ℕ)) → i < length xs → same_names (drop i xs) (drop i ys) ≡ (same_at (slice_get xs i) (slice_get ys i) && same_names (drop (i + 1) xs) (drop (i + 1) ys))
same_names-step i [] ys h = absurd (omega (arith, h))
same_names-step zero (x ∷ xs) [] h = refl
same_names-step zero (x ∷ xs) (y ∷ ys) h = refl
same_names-step (suc i) (x ∷ xs) [] h = let p : i < length xs = omega (arith, h) in let z : suc i + 1 ≡ suc (i + 1) = omega arith in
    same-nil i xs p ∙ same_at-none (slice_get xs i) (same_names (drop (suc i + 1) (x ∷ xs)) (drop (suc i + 1) []))
same_names-step (suc i) (x ∷ xs) (y ∷ ys) h = let p : i < length xs = omega (arith, h) in let z : suc i + 1 ≡ suc (i + 1) = omega arith in
    rw z (same_names-step i xs ys p)

pub names-differ : (i : ℕ) (xs ys : List (List ℕ)) (b : Bool) → i < length xs → b ≡ same_at (slice_get xs i) (slice_get ys i) → b ≡ false → same_names (drop i xs) (drop i ys) ≡ same_names xs ys → false ≡ same_names xs ys
names-differ i xs ys b lt is other inv =
    ap (λ z. z && same_names (drop (i + 1) xs) (drop (i + 1) ys)) (sym other ∙ is) ∙ sym (same_names-step i xs ys lt) ∙ inv

pub names-agree : (i : ℕ) (xs ys : List (List ℕ)) (b : Bool) → i < length xs → b ≡ same_at (slice_get xs i) (slice_get ys i) → b ≡ true → same_names (drop i xs) (drop i ys) ≡ same_names xs ys →
    same_names (drop (i + 1) xs) (drop (i + 1) ys) ≡ same_names xs ys
names-agree i xs ys b lt is same inv =
    ap (λ z. z && same_names (drop (i + 1) xs) (drop (i + 1) ys)) (sym same ∙ is) ∙ sym (same_names-step i xs ys lt) ∙ inv

-- ---- the parts of a table

pub table-parts : (es fs : List (List ℕ × Macro)) (cs ds : List (ℕ × List ℕ)) → es ≡ fs → cs ≡ ds →
    let one : Macros = record { entries = es; files = cs } in let two : Macros = record { entries = fs; files = ds } in one ≡ two
table-parts es fs cs ds p q =
    ap (λ (x : List (List ℕ × Macro)). let t : Macros = record { entries = x; files = cs } in t) p ∙ ap (λ (y : List (ℕ × List ℕ)). let t : Macros = record { entries = fs; files = y } in t) q

pub lookup-none : {K : Type 0} (text : K → List ℕ) (name : List ℕ) (es : List (K × Macro)) → found name (seen text es) ≡ None → lookup_by (λ q. same_text name (text q)) es ≡ None
lookup-none text name es h = found-lookup text name es ∙ h

pub defines-none : (name : List ℕ) (es : List (List ℕ × Macro)) → found name es ≡ None → defines name es ≡ false
defines-none name [] = λ h. refl
defines-none name (e ∷ es) =
    elim (same_text name e.0) as (λ t. cond t (Some e.1) (found name es) ≡ None → (t || defines name es) ≡ false) [
      | true ↦ λ h. cc
      | false ↦ λ h. defines-none name es h
    ]

pub defines-some : (name : List ℕ) (es : List (List ℕ × Macro)) (m : Macro) → found name es ≡ Some m → defines name es ≡ true
defines-some name [] m = λ h. cc
defines-some name (e ∷ es) m =
    elim (same_text name e.0) as (λ t. cond t (Some e.1) (found name es) ≡ Some m → (t || defines name es) ≡ true) [
      | true ↦ λ h. refl
      | false ↦ λ h. defines-some name es m h
    ]

pub added-macro : {K : Type 0} (text : K → List ℕ) (k : K) (m : Macro) (es : List (K × Macro)) → lookup_by (λ q. same_text (text k) (text q)) es ≡ None →
    seen text (insert_entry (λ a b. same_text (text a) (text b)) es k m) ≡ seen text es ++ (text k, m) ∷ []
added-macro text k m es h = ap (seen text) (insert-new (λ a b. same_text (text a) (text b)) es k m h) ∙ map-append (λ e. (text e.0, e.1)) es ((k, m) ∷ [])

pub added-file : (file : ℕ) (name : List ℕ) (es : List (ℕ × List ℕ)) → insert_entry nat_eq es file name ≡ with_file file name es
added-file file name [] = refl
added-file file name (e ∷ es) = ap (λ z. cond (nat_eq file e.0) ((e.0, name) ∷ es) (e ∷ z)) (added-file file name es)

pub same_pairs : {A B : Type 0} (es : List (A × B)) → map (λ e. let p : A × B = (e.0, e.1) in p) es ≡ es
same_pairs [] = refl
same_pairs (e ∷ es) = ap (λ z. e ∷ z) (same_pairs es)

-- ---- definitions

pub standing-none : (m : Macro) (o : Option Macro) → None ≡ option_map (λ old. same_definition old m) o → o ≡ None
standing-none m None h = refl
standing-none m (Some old) h = cc

pub standing-some : (m : Macro) (o : Option Macro) (b : Bool) → Some b ≡ option_map (λ old. same_definition old m) o → (d : Macro) × (o ≡ Some d) × (b ≡ same_definition d m)
standing-some m None b h = cc
standing-some m (Some old) b h = (old, refl, cc)

pub defines-new : (old : Macros) (m : Macro) (new : Macros) → found m.name old.entries ≡ None → new ≡ record old { entries = old.entries ++ (m.name, m) ∷ [] } → Defines old m (Ok tt) new
defines-new old m new none is =
    (ap (clashes m) none, is ∙ ap (λ b. let t : Macros = record old { entries = cond b old.entries (old.entries ++ (m.name, m) ∷ []) } in t) (sym (defines-none m.name old.entries none)))

pub defines-same : (old : Macros) (m : Macro) (b : Bool) → Some b ≡ option_map (λ d. same_definition d m) (found m.name old.entries) → b ≡ true → Defines old m (Ok tt) old
defines-same old m b h same =
    let s = standing-some m (found m.name old.entries) b h in
    (ap (clashes m) s.1 ∙ ap not (sym s.2 ∙ same), ap (λ b. let t : Macros = record old { entries = cond b old.entries (old.entries ++ (m.name, m) ∷ []) } in t) (sym (defines-some m.name old.entries s.0 s.1)))

pub defines-clash : (old : Macros) (m : Macro) (b : Bool) → Some b ≡ option_map (λ d. same_definition d m) (found m.name old.entries) → b ≡ false →
    (clashes m (found m.name old.entries) ≡ true)
defines-clash old m b h other =
    let s = standing-some m (found m.name old.entries) b h in ap (clashes m) s.1 ∙ ap not (sym s.2 ∙ other)

-- one more macro in a table without names of files
pub one_more_macro : (es : List (List ℕ × Macro)) (e : List ℕ × Macro) (t u : Macros) → t ≡ record { entries = es; files = [] } → u ≡ record t { entries = t.entries ++ e ∷ [] } →
    u ≡ record { entries = es ++ e ∷ []; files = [] }
one_more_macro es e t u h k = k ∙ ap (λ (z : Macros). let r : Macros = record z { entries = z.entries ++ e ∷ [] } in r) h

-- ---- names of files

abbrev pub or_empty : Option (List ℕ) → List ℕ
or_empty None = []
or_empty (Some name) = name

pub file_name-lookup : (file : ℕ) (es : List (ℕ × List ℕ)) → or_empty (lookup_by (nat_eq file) es) ≡ file_name file es
file_name-lookup file [] = refl
file_name-lookup file (e ∷ es) =
    elim (nat_eq file e.0) as (λ t. or_empty (cond t (Some e.1) (lookup_by (nat_eq file) es)) ≡ cond t e.1 (file_name file es)) [
      | true ↦ refl
      | false ↦ file_name-lookup file es
    ]
