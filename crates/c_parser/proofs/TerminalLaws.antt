-- The numbers of identifiers by the spellings of the tokens before are those of the whole list.
use Rattle.std.proofs.Common.{◌≡◌, ℕ, zero, suc, ◌+◌, ◌-◌, ◌<◌, Bool, true, false, List, [], ◌∷◌, ◌++◌, take, drop, length, slice_get, Option, Some, None, refl, ap, sym, subst, ◌∙◌, arith, cond, append_assoc, append-nil}
use Rattle.std.specs.Str.{bytes_eq}
use Rattle.std.proofs.lemmas.Slice.Eq.{bytes_eq-Decides}
use Rattle.model_tokens.specs.declared.tokens.CKind.{CKind}
use Rattle.model_tokens.specs.declared.tokens.CKind.TheVariants as token
use Rattle.model_tokens.specs.declared.tokens.CTok.{CTok}
use Rattle.model_grammar.specs.declared.grammar.Terminal.{Terminal}
use Rattle.model_grammar.specs.TerminalsOf.{kind_number, is_spelled, first_rank, name_number, terminals_from, terminals_of}
use Rattle.c_parser.specs.Ranks.{Spelled, ranked, known_or, with_spelling, number_behind, with_kind, first_seen, AreBefore}

first_known : (spelling : List ℕ) (rank first m : ℕ) (ts : List CTok) → first_seen spelling rank (take m ts) ≡ Some first → first_rank spelling rank ts ≡ first
first_known spelling rank first zero [] h = cc
first_known spelling rank first zero (t ∷ ts) h = cc
first_known spelling rank first (suc m) [] h = cc
first_known spelling rank first (suc m) (t ∷ ts) h =
    elim (is_spelled spelling t.kind) as (λ b. cond b (Some rank) (first_seen spelling (rank + 1) (take m ts)) ≡ Some first → cond b rank (first_rank spelling (rank + 1) ts) ≡ first) [
      | true ↦ λ e. cc
      | false ↦ λ e. first_known spelling (rank + 1) first m ts e
    ] h

first_new : (spelling : List ℕ) (rank m : ℕ) (ts : List CTok) (u : CTok) → first_seen spelling rank (take m ts) ≡ None → slice_get ts m ≡ Some u → is_spelled spelling u.kind ≡ true → first_rank spelling rank ts ≡ rank + m
first_new spelling rank zero [] u h e s = cc
first_new spelling rank (suc m) [] u h e s = cc
first_new spelling rank zero (t ∷ ts) u h e s = let q : is_spelled spelling t.kind ≡ true = cc in ap (λ b. cond b rank (first_rank spelling (rank + 1) ts)) q ∙ omega arith
first_new spelling rank (suc m) (t ∷ ts) u h e s =
    elim (is_spelled spelling t.kind) as (λ b. cond b (Some rank) (first_seen spelling (rank + 1) (take m ts)) ≡ None → cond b rank (first_rank spelling (rank + 1) ts) ≡ rank + suc m) [
      | true ↦ λ q. cc
      | false ↦ λ q. first_new spelling (rank + 1) m ts u q (later_get t ts m u e) s ∙ omega arith
    ] h
  where
    later_get : (t : CTok) (ts : List CTok) (m : ℕ) (u : CTok) → slice_get (t ∷ ts) (suc m) ≡ Some u → slice_get ts m ≡ Some u
    later_get t ts m u e = grind arith

same_bytes : (a : List ℕ) → bytes_eq a a ≡ true
same_bytes a = (bytes_eq-Decides a a).1 refl

from_zero : (n : ℕ) → n ≡ 0 + n
from_zero n = omega arith

-- the number of a token by the spellings before it
numbered : (ts : List CTok) (n : ℕ) (seen : List Spelled) (kind : CKind) (u : CTok) → AreBefore ts n seen → slice_get ts n ≡ Some u → u.kind ≡ kind → number_behind seen n kind ≡ name_number ts kind
numbered ts n seen (token.Name spelling) u b g k = by (first_seen spelling 0 (take n ts)) refl
  where
    by : (o : Option ℕ) → first_seen spelling 0 (take n ts) ≡ o → known_or n (ranked spelling seen) ≡ first_rank spelling 0 ts
    by None e = ap (known_or n) (b spelling ∙ e) ∙ from_zero n ∙ sym (first_new spelling 0 n ts u e g (ap (is_spelled spelling) k ∙ same_bytes spelling))
    by (Some first) e = ap (known_or n) (b spelling ∙ e) ∙ sym (first_known spelling 0 first n ts e)
numbered ts n seen (token.Word w) u b g k = refl
numbered ts n seen (token.Punct p) u b g k = refl
numbered ts n seen (token.Integer i) u b g k = refl
numbered ts n seen (token.Text t) u b g k = refl

-- ---- one more token

abbrev or_first : Option ℕ → Bool → ℕ → Option ℕ
or_first (Some first) b rank = Some first
or_first None b rank = cond b (Some rank) None

first_seen_end : (spelling : List ℕ) (rank m : ℕ) (ts : List CTok) (u : CTok) → slice_get ts m ≡ Some u → first_seen spelling rank (take (m + 1) ts) ≡ or_first (first_seen spelling rank (take m ts)) (is_spelled spelling u.kind) (rank + m)
first_seen_end spelling rank zero [] u e = cc
first_seen_end spelling rank (suc m) [] u e = cc
first_seen_end spelling rank zero (t ∷ ts) u e = let q : t ≡ u = cc in let z : rank + 0 ≡ rank = omega arith in rw (z, q) refl
first_seen_end spelling rank (suc m) (t ∷ ts) u e = let k : suc m + 1 ≡ suc (m + 1) = omega arith in rw k
    (elim (is_spelled spelling t.kind) as (λ b. cond b (Some rank) (first_seen spelling (rank + 1) (take (m + 1) ts)) ≡ or_first (cond b (Some rank) (first_seen spelling (rank + 1) (take m ts))) (is_spelled spelling u.kind) (rank + suc m)) [
      | true ↦ refl
      | false ↦ let z : rank + suc m ≡ rank + 1 + m = omega arith in rw z (first_seen_end spelling (rank + 1) m ts u (later_get t ts m u e))
    ])
  where
    later_get : (t : CTok) (ts : List CTok) (m : ℕ) (u : CTok) → slice_get (t ∷ ts) (suc m) ≡ Some u → slice_get ts m ≡ Some u
    later_get t ts m u e = grind arith

ranked_end : (spelling : List ℕ) (es : List Spelled) (name : List ℕ) (rank : ℕ) → ranked spelling (es ++ (name, rank) ∷ []) ≡ or_first (ranked spelling es) (bytes_eq spelling name) rank
ranked_end spelling [] name rank = refl
ranked_end spelling (e ∷ es) name rank =
    elim (bytes_eq spelling e.0) as (λ b. cond b (Some e.1) (ranked spelling (es ++ (name, rank) ∷ [])) ≡ or_first (cond b (Some e.1) (ranked spelling es)) (bytes_eq spelling name) rank) [
      | true ↦ refl
      | false ↦ ranked_end spelling es name rank
    ]

either_way : (a b : List ℕ) → bytes_eq a b ≡ bytes_eq b a
either_way a b = by (bytes_eq a b) (bytes_eq b a) refl refl
  where
    by : (x y : Bool) → bytes_eq a b ≡ x → bytes_eq b a ≡ y → x ≡ y
    by true true p q = refl
    by false false p q = refl
    by true false p q = let e : b ≡ a = sym ((bytes_eq-Decides a b).0 p) in let z : bytes_eq b a ≡ true = (bytes_eq-Decides b a).1 e in cc
    by false true p q = let e : a ≡ b = sym ((bytes_eq-Decides b a).0 q) in let z : bytes_eq a b ≡ true = (bytes_eq-Decides a b).1 e in cc

not_spelled : (o : Option ℕ) (rank : ℕ) → o ≡ or_first o false rank
not_spelled (Some first) rank = refl
not_spelled None rank = refl

-- a spelling that is known stays; another is added
added : (seen : List Spelled) (name spelling : List ℕ) (n : ℕ) → ranked spelling (with_spelling (ranked name seen) name n seen) ≡ or_first (ranked spelling seen) (bytes_eq name spelling) n
added seen name spelling n = by (ranked name seen) refl
  where
    known : (first : ℕ) (b : Bool) → ranked name seen ≡ Some first → bytes_eq name spelling ≡ b → ranked spelling seen ≡ or_first (ranked spelling seen) b n
    known first false e s = not_spelled (ranked spelling seen) n
    known first true e s = let q : ranked spelling seen ≡ Some first = ap (λ z. ranked z seen) (sym ((bytes_eq-Decides name spelling).0 s)) ∙ e in q ∙ ap (λ o. or_first o true n) (sym q)

    by : (o : Option ℕ) → ranked name seen ≡ o → ranked spelling (with_spelling (ranked name seen) name n seen) ≡ or_first (ranked spelling seen) (bytes_eq name spelling) n
    by None e = ap (λ o. ranked spelling (with_spelling o name n seen)) e ∙ ranked_end spelling seen name n ∙ ap (λ b. or_first (ranked spelling seen) b n) (either_way spelling name)
    by (Some first) e = ap (λ o. ranked spelling (with_spelling o name n seen)) e ∙ known first (bytes_eq name spelling) e refl

more_before : (ts : List CTok) (n : ℕ) (seen : List Spelled) (kind : CKind) (u : CTok) → AreBefore ts n seen → slice_get ts n ≡ Some u → u.kind ≡ kind → AreBefore ts (n + 1) (with_kind seen n kind)
more_before ts n seen (token.Name name) u b g k spelling = added seen name spelling n ∙ ap (λ o. or_first o (bytes_eq name spelling) n) (b spelling) ∙ ap (λ z. or_first (first_seen spelling 0 (take n ts)) (is_spelled spelling z) n) (sym k) ∙ ap (λ m. or_first (first_seen spelling 0 (take n ts)) (is_spelled spelling u.kind) m) (from_zero n) ∙ sym (first_seen_end spelling 0 n ts u g)
more_before ts n seen (token.Word w) u b g k spelling = b spelling ∙ not_spelled _ n ∙ ap (λ z. or_first (first_seen spelling 0 (take n ts)) (is_spelled spelling z) n) (sym k) ∙ ap (λ m. or_first (first_seen spelling 0 (take n ts)) (is_spelled spelling u.kind) m) (from_zero n) ∙ sym (first_seen_end spelling 0 n ts u g)
more_before ts n seen (token.Punct w) u b g k spelling = b spelling ∙ not_spelled _ n ∙ ap (λ z. or_first (first_seen spelling 0 (take n ts)) (is_spelled spelling z) n) (sym k) ∙ ap (λ m. or_first (first_seen spelling 0 (take n ts)) (is_spelled spelling u.kind) m) (from_zero n) ∙ sym (first_seen_end spelling 0 n ts u g)
more_before ts n seen (token.Integer w) u b g k spelling = b spelling ∙ not_spelled _ n ∙ ap (λ z. or_first (first_seen spelling 0 (take n ts)) (is_spelled spelling z) n) (sym k) ∙ ap (λ m. or_first (first_seen spelling 0 (take n ts)) (is_spelled spelling u.kind) m) (from_zero n) ∙ sym (first_seen_end spelling 0 n ts u g)
more_before ts n seen (token.Text w) u b g k spelling = b spelling ∙ not_spelled _ n ∙ ap (λ z. or_first (first_seen spelling 0 (take n ts)) (is_spelled spelling z) n) (sym k) ∙ ap (λ m. or_first (first_seen spelling 0 (take n ts)) (is_spelled spelling u.kind) m) (from_zero n) ∙ sym (first_seen_end spelling 0 n ts u g)

drop_next : (n : ℕ) (ts : List CTok) (u : CTok) → slice_get ts n ≡ Some u → drop n ts ≡ u ∷ drop (n + 1) ts
drop_next zero [] u e = cc
drop_next (suc n) [] u e = cc
drop_next zero (t ∷ ts) u e = let q : t ≡ u = cc in rw q refl
drop_next (suc n) (t ∷ ts) u e = let q : slice_get ts n ≡ Some u = grind arith in let k : suc n + 1 ≡ suc (n + 1) = omega arith in rw k (drop_next n ts u q)

drop_all : (n : ℕ) (ts : List CTok) → slice_get ts n ≡ None → drop n ts ≡ []
drop_all zero [] e = refl
drop_all (suc n) [] e = refl
drop_all zero (t ∷ ts) e = cc
drop_all (suc n) (t ∷ ts) e = let q : slice_get ts n ≡ None = grind arith in drop_all n ts q

length_end : {A : Type 0} (xs : List A) (x : A) → length (xs ++ x ∷ []) ≡ length xs + 1
length_end [] x = refl
length_end (y ∷ ys) x = let q = length_end ys x in omega (arith, q)

-- the terminals of the first tokens are made, and the spellings are theirs
pub Made : List CTok → List Terminal → List Spelled → Type 0
Made ts made seen = (terminals_of ts ≡ made ++ terminals_from ts (length made) (drop (length made) ts)) × AreBefore ts (length made) seen

pub no_terminal : (ts : List CTok) → Made ts [] []
unfolding Made
no_terminal ts = (refl, λ spelling. refl)

pub one_terminal : (ts : List CTok) (made later : List Terminal) (seen : List Spelled) (u : CTok) (t : Terminal) → Made ts made seen → slice_get ts (length made) ≡ Some u → t ≡ record { kind = kind_number u.kind; name = number_behind seen (length made) u.kind; rank = length made } → later ≡ made ++ t ∷ [] → Made ts later (with_kind seen (length made) u.kind)
unfolding Made
one_terminal ts made later seen u t m g e l =
    let n : length later ≡ length made + 1 = ap length l ∙ length_end made t in
    let d : drop (length made) ts ≡ u ∷ drop (length made + 1) ts = drop_next (length made) ts u g in
    let q : t ≡ record { kind = kind_number u.kind; name = name_number ts u.kind; rank = length made } = e ∙ ap (λ z. let t : Terminal = record { kind = kind_number u.kind; name = z; rank = length made } in t) (numbered ts (length made) seen u.kind u m.1 g refl) in
    let r : terminals_of ts ≡ made ++ t ∷ terminals_from ts (length made + 1) (drop (length made + 1) ts) = m.0 ∙ ap (λ z. made ++ terminals_from ts (length made) z) d ∙ ap (λ z. made ++ z ∷ terminals_from ts (length made + 1) (drop (length made + 1) ts)) (sym q) in
    (r ∙ sym (append_assoc made (t ∷ []) _) ∙ rw (n, l) refl, rw n (more_before ts (length made) seen u.kind u m.1 g refl))

pub all_terminals : (ts : List CTok) (made : List Terminal) (seen : List Spelled) → Made ts made seen → slice_get ts (length made) ≡ None → made ≡ terminals_of ts
unfolding Made
all_terminals ts made seen m g = sym (m.0 ∙ ap (λ z. made ++ terminals_from ts (length made) z) (drop_all (length made) ts g) ∙ append-nil made)

pub within : (n : ℕ) (ts : List CTok) (u : CTok) → slice_get ts n ≡ Some u → n < length ts
within zero [] u e = cc
within (suc n) [] u e = cc
within zero (t ∷ ts) u e = omega arith
within (suc n) (t ∷ ts) u e = let q : slice_get ts n ≡ Some u = grind arith in let z = within n ts u q in omega arith

-- the same, with the number of terminals under names of its own
pub one_step : (ts : List CTok) (made later : List Terminal) (seen more : List Spelled) (u : CTok) (t : Terminal) (m n : ℕ) → Made ts made seen → m ≡ length made → n ≡ length made → Some u ≡ slice_get ts m → t ≡ record { kind = kind_number u.kind; name = number_behind seen n u.kind; rank = n } → more ≡ with_kind seen n u.kind → later ≡ made ++ t ∷ [] → Made ts later more
one_step ts made later seen more u t m n h p q g e k l =
    let z : with_kind seen (length made) u.kind ≡ more = ap (λ i. with_kind seen i u.kind) (sym q) ∙ sym k in
    subst (λ s. Made ts later s) z (one_terminal ts made later seen u t h (sym (g ∙ ap (slice_get ts) p)) (e ∙ ap (λ i. let t : Terminal = record { kind = kind_number u.kind; name = number_behind seen i u.kind; rank = i } in t) q) l)

pub fewer : (ts : List CTok) (made later : List Terminal) (u : CTok) (t : Terminal) (m : ℕ) → m ≡ length made → Some u ≡ slice_get ts m → later ≡ made ++ t ∷ [] → length ts - length later < length ts - length made
fewer ts made later u t m p g l =
    let n : length later ≡ length made + 1 = ap length l ∙ length_end made t in
    let w : m < length ts = within m ts u (sym g) in
    omega (arith, n, w, p)

pub no_more : (ts : List CTok) (made : List Terminal) (seen : List Spelled) (m : ℕ) → Made ts made seen → m ≡ length made → None ≡ slice_get ts m → made ≡ terminals_of ts
no_more ts made seen m h p g = all_terminals ts made seen h (sym (g ∙ ap (slice_get ts) p))
