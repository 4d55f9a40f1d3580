-- Names stay distinct where a name that isn't held is added.
use Rattle.std.proofs.Common.{◌≡◌, ℕ, List, [], ◌∷◌, ◌++◌, Option, Some, None, Bool, true, false, if◌then◌else◌, refl, sym, ap, ◌∙◌, subst, map, is_some}
use Rattle.std.specs.Str.{bytes_eq}
use Rattle.std.proofs.lemmas.Slice.Eq.{bytes_eq-Decides}
use Rattle.cake_base.specs.declared.memory.HeldFile.{HeldFile}
use Rattle.cake_base.specs.Outside.{Held, bytes_under, AreDistinct}

bytes_eq-swap : (a b : List ℕ) → bytes_eq a b ≡ bytes_eq b a
bytes_eq-swap a b = both (bytes_eq a b) (bytes_eq b a) (λ t. (bytes_eq-Decides b a).1 (sym ((bytes_eq-Decides a b).0 t))) (λ t. (bytes_eq-Decides a b).1 (sym ((bytes_eq-Decides b a).0 t)))
  where
    both : (x y : Bool) → (x ≡ true → y ≡ true) → (y ≡ true → x ≡ true) → x ≡ y
    both true y f g = sym (f refl)
    both false true f g = sym (sym (g refl))
    both false false f g = refl

-- a name that isn't held is none of the names
not_first : (b : Bool) (bytes : List ℕ) (rest : Option (List ℕ)) → (if b then Some bytes else rest) ≡ None → (b ≡ false) × (rest ≡ None)
not_first true bytes rest e = absurd (let h : Some bytes ≡ None = e in cc)
not_first false bytes rest e = (refl, e)

bytes_under-append : (held : Held) (name bytes other : List ℕ) → bytes_under held other ≡ None → bytes_eq name other ≡ false → bytes_under (held ++ (name, bytes) ∷ []) other ≡ None
bytes_under-append [] name bytes other none differs = ap (λ b. if b then Some bytes else None) differs
bytes_under-append (file ∷ held) name bytes other none differs =
    let rest = not_first (bytes_eq file.0 other) file.1 (bytes_under held other) none in
    ap (λ b. if b then Some file.1 else bytes_under (held ++ (name, bytes) ∷ []) other) rest.0 ∙ bytes_under-append held name bytes other rest.1 differs

pub AreDistinct-append : (held : Held) (name bytes : List ℕ) → AreDistinct held → bytes_under held name ≡ None → AreDistinct (held ++ (name, bytes) ∷ [])
AreDistinct-append [] name bytes distinct none = (refl, tt)
AreDistinct-append (file ∷ held) name bytes distinct none =
    let rest = not_first (bytes_eq file.0 name) file.1 (bytes_under held name) none in
    (bytes_under-append held name bytes file.0 distinct.0 (bytes_eq-swap name file.0 ∙ rest.0), AreDistinct-append held name bytes distinct.1 rest.1)

abbrev pub entry_of : HeldFile → List ℕ × List ℕ
entry_of file = (file.name, file.bytes)

map-push : (before : List HeldFile) (file : HeldFile) → map entry_of (before ++ file ∷ []) ≡ map entry_of before ++ entry_of file ∷ []
map-push [] file = refl
map-push (other ∷ before) file = ap (λ rest. entry_of other ∷ rest) (map-push before file)

-- nothing is under the name, by a look-up that found nothing
pub none_under : {A : Type 0} (found : Option A) (copied : Option A → Option (List ℕ)) (held before : Held) (name asked : List ℕ) → copied None ≡ None → false ≡ is_some found → copied found ≡ bytes_under held asked → held ≡ before → name ≡ asked → bytes_under before name ≡ None
none_under None copied held before name asked nothing none e same named = ap (λ h. bytes_under h name) (sym same) ∙ ap (bytes_under held) named ∙ sym e ∙ nothing
none_under (Some a) copied held before name asked nothing none e same named = absurd (let h : false ≡ true = none in cc)

pub distinct_after : (before after : List HeldFile) (file : HeldFile) → after ≡ before ++ file ∷ [] → AreDistinct (map entry_of before) → bytes_under (map entry_of before) file.name ≡ None → AreDistinct (map entry_of after)
distinct_after before after file e distinct none =
    subst (λ files. AreDistinct files) (sym (ap (map entry_of) e ∙ map-push before file)) (AreDistinct-append (map entry_of before) file.name file.bytes distinct none)
