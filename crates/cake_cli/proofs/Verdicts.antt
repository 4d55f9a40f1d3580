-- The reader's answer is what it says of the tokens.
use Rattle.std.proofs.Common.{◌≡◌, ℕ, suc, ◌+◌, ◌<◌, List, [], ◌∷◌, ◌++◌, take, length, Option, Some, None, refl, sym, ap, ◌∙◌, subst, append_assoc, arith, length-append}
use Rattle.std.proofs.lemmas.List.{append-nil}
use Rattle.cake_base.specs.declared.places.Place.{Place}
use Rattle.model_tokens.specs.declared.tokens.CTok.{CTok}
use Rattle.c_model.specs.FirstUnit.{CanGoOn, StopsFor, no_unit_goes_on, too_few, token_place}
use Rattle.cake_cli.specs.Reader.{Stage, Front, Operand, Operator, Tail, Whole, Reading, Stops, read_token, at_end, on_stage, read_from, read_unit}
use Rattle.cake_cli.specs.ReadsAs.{ReadsAs}
use Rattle.cake_cli.proofs.Steps.{go, go-append, go-None}
use Rattle.cake_cli.proofs.Complete.{unit_read}
use Rattle.cake_cli.proofs.Sound.{whole_is_unit, read_goes_on}

token_place-all : (ts : List CTok) (end : Place) → token_place ts end (length ts) ≡ end
token_place-all [] end = refl
token_place-all (t ∷ ts) end = ap (token_place (t ∷ ts) end) (let one : length (t ∷ ts) ≡ suc (length ts) = omega arith in one) ∙ token_place-all ts end

token_place-append : (ts : List CTok) (t : CTok) (us : List CTok) (end : Place) → token_place (ts ++ t ∷ us) end (length ts) ≡ t.place
token_place-append [] t us end = refl
token_place-append (u ∷ ts) t us end = ap (token_place (u ∷ (ts ++ t ∷ us)) end) (let one : length (u ∷ ts) ≡ suc (length ts) = omega arith in one) ∙ token_place-append ts t us end

take-front : (ts us : List CTok) → take (length ts) (ts ++ us) ≡ ts
take-front [] us = refl
take-front (t ∷ ts) us = ap (λ n. take n (t ∷ (ts ++ us))) (let one : length (t ∷ ts) ≡ suc (length ts) = omega arith in one) ∙ ap (λ r. t ∷ r) (take-front ts us)

take-one_more : (ts : List CTok) (t : CTok) (us : List CTok) → take (1 + length ts) (ts ++ t ∷ us) ≡ ts ++ t ∷ []
take-one_more ts t us =
    ap (λ n. take n (ts ++ t ∷ us)) (let size : 1 + length ts ≡ length (ts ++ t ∷ []) = omega (arith, length-append ts (t ∷ [])) in size)
    ∙ ap (take (length (ts ++ t ∷ []))) (sym (append_assoc ts (t ∷ []) us))
    ∙ take-front (ts ++ t ∷ []) us

stops_at_end : (all : List CTok) (stage : Stage) (end : Place) → go (Some (Front 0)) all ≡ Some stage → ((value : _) → stage ≡ Whole value → ⊥) → ReadsAs all end (Stops end)
stops_at_end all stage end e unfinished =
    let whole : take (length all) all ≡ all = ap (take (length all)) (sym (append-nil all)) ∙ take-front all [] in (
      length all,
      record {
        before = subst CanGoOn (sym whole) (read_goes_on all stage e);
        cause = too_few refl (λ core unit. unfinished unit.value (let both : Some stage ≡ Some (Whole unit.value) = sym e ∙ unit_read all core unit in cc));
      },
      sym (token_place-all all end),
    )

says_at_end : (all : List CTok) (stage : Stage) (end : Place) → go (Some (Front 0)) all ≡ Some stage → ReadsAs all end (at_end stage end)
says_at_end all (Whole value) end e = whole_is_unit all value e
says_at_end all (Front count) end e = stops_at_end all (Front count) end e (λ value is. let h : Front count ≡ Whole value = is in cc)
says_at_end all (Operand here outer) end e = stops_at_end all (Operand here outer) end e (λ value is. let h : Operand here outer ≡ Whole value = is in cc)
says_at_end all (Operator operand here outer) end e = stops_at_end all (Operator operand here outer) end e (λ value is. let h : Operator operand here outer ≡ Whole value = is in cc)
says_at_end all (Tail sum) end e = stops_at_end all (Tail sum) end e (λ value is. let h : Tail sum ≡ Whole value = is in cc)

inside_of : (done : List CTok) (t : CTok) (left : List CTok) → length done < length (done ++ t ∷ left)
inside_of done t left = omega (arith, length-append done (t ∷ left))

stops_before : (done : List CTok) (t : CTok) (left : List CTok) (stage : Stage) (end : Place) → go (Some (Front 0)) done ≡ Some stage → StopsFor (done ++ t ∷ left) (length done) → ReadsAs (done ++ t ∷ left) end (Stops t.place)
stops_before done t left stage end e cause = (
  length done,
  record { before = subst CanGoOn (sym (take-front done (t ∷ left))) (read_goes_on done stage e); cause = cause },
  sym (token_place-append done t left end),
)

-- no unit goes on with a token that the reader doesn't take
no_unit : (done : List CTok) (t : CTok) (left : List CTok) (stage : Stage) → go (Some (Front 0)) done ≡ Some stage → read_token stage t ≡ None → CanGoOn (take (1 + length done) (done ++ t ∷ left)) → ⊥
no_unit done t left stage e none (rest, core, unit) =
    let read = unit_read _ core unit in
    let fails : go (Some (Front 0)) (take (1 + length done) (done ++ t ∷ left) ++ rest) ≡ None =
    ap (λ ts. go (Some (Front 0)) (ts ++ rest)) (take-one_more done t left)
    ∙ ap (go (Some (Front 0))) (append_assoc done (t ∷ []) rest)
    ∙ go-append (Some (Front 0)) done (t ∷ rest)
    ∙ ap (λ o. go o (t ∷ rest)) e
    ∙ ap (λ o. go o rest) none
    ∙ go-None rest in
    let both : None ≡ Some (Whole unit.value) = sym fails ∙ read in cc

abbrev Rest : List CTok → Place → Type 0
Rest left end = (done : List CTok) (stage : Stage) → go (Some (Front 0)) done ≡ Some stage → ReadsAs (done ++ left) end (read_from stage left end)

-- the reader takes the token or not
says_step : (o : Option Stage) (done : List CTok) (t : CTok) (left : List CTok) (stage : Stage) (end : Place) → Rest left end → read_token stage t ≡ o → go (Some (Front 0)) done ≡ Some stage → ReadsAs (done ++ t ∷ left) end (on_stage o t.place (λ next. read_from next left end))
says_step None done t left stage end rest step e =
    stops_before done t left stage end e (no_unit_goes_on (inside_of done t left) (no_unit done t left stage e step))
says_step (Some next) done t left stage end rest step e =
    subst (λ ts. ReadsAs ts end (read_from next left end)) (append_assoc done (t ∷ []) left)
    (rest (done ++ t ∷ []) next (go-append (Some (Front 0)) done (t ∷ []) ∙ ap (λ o. go o (t ∷ [])) e ∙ step))

says : (left : List CTok) (end : Place) → Rest left end
says [] end done stage e = subst (λ ts. ReadsAs ts end (at_end stage end)) (sym (append-nil done)) (says_at_end done stage end e)
says (t ∷ left) end done stage e = says_step (read_token stage t) done t left stage end (says left end) refl e

pub reading_says : (tokens : List CTok) (end : Place) → ReadsAs tokens end (read_unit tokens end)
reading_says tokens end = says tokens end [] (Front 0) refl
