-- The written program reads, is flat, exports what the unit does and runs as it does.
use Rattle.std.proofs.Common.{◌≡◌, ◌⊎◌, ◌<◌, ℕ, zero, suc, List, [], ◌∷◌, Option, Some, None, Result, Ok, Err, Bool, true, false, ◌||◌, if◌then◌else◌, refl, sym, ap, ◌∙◌, subst, inl, inr, arith}
use Rattle.std.specs.Prelude.{codes}
use Rattle.std.specs.Str.{bytes_eq}
use Rattle.cake_base.specs.declared.places.Place.{Place}
use Rattle.model_types.specs.declared.numbers.Basic.TheVariants.{Int}
use Rattle.model_types.specs.declared.numbers.BinOp.{BinOp}
use Rattle.model_types.specs.declared.numbers.BinOp.TheVariants.{Mul, Div, Rem, Add, Sub, ShiftLeft, ShiftRight, Less, Greater, LessEqual, GreaterEqual, Equal, NotEqual, BitAnd, BitXor, BitOr}
use Rattle.model_types.specs.declared.marks.Mark.{Mark}
use Rattle.model_types.specs.declared.outcomes.Cause.{Cause}
use Rattle.model_types.specs.declared.outcomes.Cause.TheVariants.{NoValue, Kind}
use Rattle.model_types.specs.Types.{CType, form_of_type}
use Rattle.model_core.specs.Types89.{Type89, int_type as int89}
use Rattle.model_core.specs.CoreTypes.{int_type as int23, type_of, binary_type as binary23}
use Rattle.model_runs.specs.Memory.{Value, Missing, Single, StructureValue, Scalar}
use Rattle.model_runs.specs.Applied.{applied}
use Rattle.model_runs.specs.Run.{Undefined, State, Step, Goes, Ends, follow, unless_undefined, Act, ◌▷◌, just, used, scalar_of, start_with, run_of, answer_of, Gives, then_do}
use Rattle.model_core.specs.Core as source
use Rattle.model_runs.specs.SourceFrame as source_frame
use Rattle.model_core.specs.SourceMarks.{at_mark, expr_mark}
use Rattle.model_runs.specs.Operands as operands
use Rattle.model_runs.specs.SourceOperations as source_operations
use Rattle.model_runs.specs.SourceValues as source_values
use Rattle.model_runs.specs.SourceStatements as source_statements
use Rattle.model_runs.specs.SourceRun.{run23}
use Rattle.model_runs.specs.SourceRun as source_run
use Rattle.model_core.specs.Program89 as target
use Rattle.model_c89.specs.Names89.{IsName}
use Rattle.model_c89.specs.TargetTypes.{Names, value_type, decayed, binary_type as binary89}
use Rattle.model_c89.specs.TargetFrame as target_frame
use Rattle.model_c89.specs.TargetOperations as target_operations
use Rattle.model_c89.specs.TargetValues as target_values
use Rattle.model_c89.specs.TargetStatements as target_statements
use Rattle.model_c89.specs.TargetRun.{run89}
use Rattle.model_c89.specs.TargetRun as target_run
use Rattle.model_c89.specs.TypedParts89.{takes}
use Rattle.model_c89.specs.TypedStat89.{has_type}
use Rattle.model_c89.specs.Typing89.{Typed}
use Rattle.model_c89.specs.Written89.{WrittenExpr}
use Rattle.c_model.specs.FirstUnit.{UnitPlaces, mark_at, main_type, ending, returning}
use Rattle.model_c89.specs.Spelling89.{canonical}
use Rattle.model_c89.specs.Reading89.{Reads89}
use Rattle.model_c89.specs.Flat89.{holds_call}
use Rattle.c_model.specs.WrittenType.{StructNames, written_type}
use Rattle.c_model.specs.Translation.{Exports, IsUndefined, IsEntryForm, HasBody, Same}
use Rattle.model_c89.proofs.Spelled.{program_reads}
use Rattle.cake_cli.specs.declared.expression.Expr.{Expr}
use Rattle.cake_cli.specs.declared.expression.Expr.TheVariants.{Constant, Binary'}
use Rattle.cake_cli.specs.Views.{expr_of, target_of}
use Rattle.cake_cli.specs.Lowered.{main_of, program_of}
use Rattle.cake_cli.specs.Promise.{Delivers}

-- a part of a run is undefined
Fails : {A : Type 0} → Step A → Type 0
Fails step = (cause : Cause) × (place : Option Place) × (state : State) × (step ≡ Ends (Undefined cause place) state)

-- the second part is as the first, unless that is undefined
abbrev Follows : {A : Type 0} → Step A → Step A → Type 0
Follows l r = Fails l ⊎ (r ≡ l)

follow_fails : {A B : Type 0} (l : Step A) (f : A → State → Step B) → Fails l → Fails (follow l f)
unfolding Fails
follow_fails l f (cause, place, state, e) = (cause, place, state, ap (λ s. follow s f) e)

follow_same : {A B : Type 0} (l r : Step A) (f g : A → State → Step B) → Follows l r → ((x : A) (s : State) → Follows (f x s) (g x s)) → Follows (follow l f) (follow r g)
follow_same l r f g (inl fails) next = inl (follow_fails l f fails)
follow_same (Goes x s) r f g (inr e) next = elim (next x s) [ inl fails ↦ inl fails | inr same ↦ inr (ap (λ t. follow t g) e ∙ same) ]
follow_same (Ends ending s) r f g (inr e) next = inr (ap (λ t. follow t g) e)

unless_undefined_same : {A : Type 0} (place : Option Place) (r : Result A Cause) (s : State) → Follows (unless_undefined place r s) (unless_undefined None r s)
unfolding Fails
unless_undefined_same place (Ok x) s = inr refl
unless_undefined_same place (Err cause) s = inl (cause, place, s, refl)

scalar_same : (place : Option Place) (v : Value) (s : State) → Follows (scalar_of place v s) (scalar_of None v s)
unfolding Fails
scalar_same place Missing s = inl (NoValue, place, s, refl)
scalar_same place (Single scalar) s = inr refl
scalar_same place (StructureValue cells) s = inl (Kind, place, s, refl)

used_same : (place : Option Place) (v : Value) (s : State) → Follows (used place v s) (used None v s)
unfolding Fails
used_same place Missing s = inl (NoValue, place, s, refl)
used_same place (Single scalar) s = inr refl
used_same place (StructureValue cells) s = inr refl

-- operations on two values of int have a value of it, and are done in it

binary_is_int : (op : BinOp) → binary23 op int23 int23 ≡ int23
binary_is_int Mul = refl
binary_is_int Div = refl
binary_is_int Rem = refl
binary_is_int Add = refl
binary_is_int Sub = refl
binary_is_int ShiftLeft = refl
binary_is_int ShiftRight = refl
binary_is_int Less = refl
binary_is_int Greater = refl
binary_is_int LessEqual = refl
binary_is_int GreaterEqual = refl
binary_is_int Equal = refl
binary_is_int NotEqual = refl
binary_is_int BitAnd = refl
binary_is_int BitXor = refl
binary_is_int BitOr = refl

written_is_int : (op : BinOp) → binary89 op int89 int89 ≡ int89
written_is_int Mul = refl
written_is_int Div = refl
written_is_int Rem = refl
written_is_int Add = refl
written_is_int Sub = refl
written_is_int ShiftLeft = refl
written_is_int ShiftRight = refl
written_is_int Less = refl
written_is_int Greater = refl
written_is_int LessEqual = refl
written_is_int GreaterEqual = refl
written_is_int Equal = refl
written_is_int NotEqual = refl
written_is_int BitAnd = refl
written_is_int BitXor = refl
written_is_int BitOr = refl

done_in_int : (op : BinOp) (x y : Scalar) (s : State) → target_operations.on_integers op Int Int x y s ≡ unless_undefined None (applied op Int 1 x y) s
done_in_int Mul x y s = refl
done_in_int Div x y s = refl
done_in_int Rem x y s = refl
done_in_int Add x y s = refl
done_in_int Sub x y s = refl
done_in_int ShiftLeft x y s = refl
done_in_int ShiftRight x y s = refl
done_in_int Less x y s = refl
done_in_int Greater x y s = refl
done_in_int LessEqual x y s = refl
done_in_int GreaterEqual x y s = refl
done_in_int Equal x y s = refl
done_in_int NotEqual x y s = refl
done_in_int BitAnd x y s = refl
done_in_int BitXor x y s = refl
done_in_int BitOr x y s = refl

takes_ints : (structures : List target.Structure89) (op : BinOp) (m n : Bool) → takes structures op m n int89 int89 ≡ true
takes_ints structures Mul m n = refl
takes_ints structures Div m n = refl
takes_ints structures Rem m n = refl
takes_ints structures Add m n = refl
takes_ints structures Sub m n = refl
takes_ints structures ShiftLeft m n = refl
takes_ints structures ShiftRight m n = refl
takes_ints structures Less m n = refl
takes_ints structures Greater m n = refl
takes_ints structures LessEqual m n = refl
takes_ints structures GreaterEqual m n = refl
takes_ints structures Equal m n = refl
takes_ints structures NotEqual m n = refl
takes_ints structures BitAnd m n = refl
takes_ints structures BitXor m n = refl
takes_ints structures BitOr m n = refl

is_int : (e : Expr) → type_of (expr_of e) ≡ int23
is_int (Constant number mark) = refl
is_int (Binary' op p a q b mark) =
    ap (λ t. binary23 op t (type_of (expr_of b))) (is_int a) ∙ ap (binary23 op int23) (is_int b) ∙ binary_is_int op

is_written_int : (names : Names) (e : Expr) → value_type names (target_of e) ≡ int89
is_written_int names (Constant number mark) = refl
is_written_int names (Binary' op p a q b mark) =
    ap (λ t. decayed (binary89 op t (value_type names (target_of b)))) (is_written_int names a)
    ∙ ap (λ t. decayed (binary89 op int89 t)) (is_written_int names b)
    ∙ ap decayed (written_is_int op)

-- an operation of the unit, and that of the text
applied_same : (f : source_frame.Frame) (g : target_frame.Frame) (op : BinOp) (mark : Mark) (t u : CType) (t' u' : Type89) → t ≡ int23 → u ≡ int23 → t' ≡ int89 → u' ≡ int89 → (x y : Scalar) (s : State) → Follows ((source_operations.operated_on f op mark t u x y ▷ operands.just_scalar) s) ((target_operations.operated_on g op t' u' x y ▷ operands.just_scalar) s)
applied_same f g op mark t u t' u' is_t is_u is_t' is_u' x y s =
    rw (is_t, is_u, is_t', is_u', done_in_int op x y s)
    (follow_same (unless_undefined (at_mark mark) (applied op Int 1 x y) s) (unless_undefined None (applied op Int 1 x y) s) _ _ (unless_undefined_same (at_mark mark) (applied op Int 1 x y) s) (λ z s1. inr refl))

module _ (f : source_frame.Frame) (g : target_frame.Frame) where
  operand_same : (e : source.Expr) (m n : Act Value) (s : State) → Follows (m s) (n s) → Follows (source_values.operand e m s) (target_values.operand n s)
  operand_same e m n s same = follow_same (m s) (n s) _ _ same (scalar_same (at_mark (expr_mark e)))

  value_same : (e : Expr) (s : State) → Follows (source_values.evaluate f (expr_of e) s) (target_values.evaluate g (target_of e) s)
  value_same (Constant number mark) s = inr refl
  value_same (Binary' op p a q b mark) s =
      follow_same (source_values.operand (expr_of a) (source_values.evaluate f (expr_of a)) s) (target_values.operand (target_values.evaluate g (target_of a)) s) _ _ (operand_same (expr_of a) (source_values.evaluate f (expr_of a)) (target_values.evaluate g (target_of a)) s (value_same a s)) (λ x s1.
      follow_same (source_values.operand (expr_of b) (source_values.evaluate f (expr_of b)) s1) (target_values.operand (target_values.evaluate g (target_of b)) s1) _ _ (operand_same (expr_of b) (source_values.evaluate f (expr_of b)) (target_values.evaluate g (target_of b)) s1 (value_same b s1)) (λ y s2.
      applied_same f g op mark (type_of (expr_of a)) (type_of (expr_of b)) (value_type g.names (target_of a)) (value_type g.names (target_of b)) (is_int a) (is_int b) (is_written_int g.names a) (is_written_int g.names b) x y s2))

  -- a returned value is the result's already
  as_it_is : (t : Type89) (v : Value) → t ≡ int89 → target_operations.value_as t int89 v ≡ v
  as_it_is t Missing is = refl
  as_it_is t (Single scalar) is = rw (is) refl
  as_it_is t (StructureValue cells) is = refl

  module _ (bound : ℕ) (e : Expr) (place : Place) (result : g.result ≡ int89) where
    returned_same : (s : State) → Follows (source_statements.perform f bound (source.Return (source.an_expr (expr_of e)) place) s) (target_statements.perform g bound (target.Return (target_of e)) s)
    returned_same s =
        follow_same (source_values.needed (expr_of e) (source_values.evaluate f (expr_of e)) s) (target_values.needed (target_values.evaluate g (target_of e)) s) _ _
        (follow_same (source_values.evaluate f (expr_of e) s) (target_values.evaluate g (target_of e) s) _ _ (value_same e s) (used_same (at_mark (expr_mark (expr_of e)))))
        (λ v s1. inr (ap (λ w. Goes (Gives w) s1) (ap (λ r. target_operations.value_as (value_type g.names (target_of e)) r v) result ∙ as_it_is (value_type g.names (target_of e)) v (is_written_int g.names e))))

    -- what stands behind the return isn't reached
    behind_return : (rest : source.Stats) (step : Step Value) →
        follow (follow step (λ v. just (Gives v))) (λ flow. then_do flow (source_statements.perform_all f bound rest))
        ≡ follow (follow step (λ v. just (Gives v))) (λ flow. then_do flow (source_statements.perform_all f bound source.no_stats))
    behind_return rest (Goes v s) = refl
    behind_return rest (Ends cause s) = refl

    all_same : (rest : source.Stats) (s : State) →
        Follows
        (source_statements.perform_all f bound (source.more_stats (source.Return (source.an_expr (expr_of e)) place) rest) s)
        (target_statements.perform_all g bound (target.more_stats (target.Return (target_of e)) target.no_stats) s)
    all_same rest s =
        subst
        (λ step. Follows step (target_statements.perform_all g bound (target.more_stats (target.Return (target_of e)) target.no_stats) s))
        (sym (behind_return rest (source_values.needed (expr_of e) (source_values.evaluate f (expr_of e)) s)))
        (follow_same (source_statements.perform f bound (source.Return (source.an_expr (expr_of e)) place) s) (target_statements.perform g bound (target.Return (target_of e)) s) _ _ (returned_same s) (λ flow s1. inr refl))

run_same : (l r : Step Value) → Follows l r → IsUndefined (run_of l) ⊎ (run_of r ≡ run_of l)
unfolding Fails
run_same l r (inl (cause, place, state, e)) = inl (cause, place, ap (λ s. (run_of s).ending) e)
run_same l r (inr e) = inr (ap run_of e)

no_names : StructNames
no_names id = []

module _ (e : Expr) (places : UnitPlaces) where
  abbrev unit : source.Core
  unit = returning (expr_of e) places

  abbrev main23 : source.Function
  main23 = record {
    id = 0;
    name = source.Named (codes "main");
    type = main_type;
    is_external = true;
    parameters = [];
    body = source.a_stat (source.Block [] (source.more_stats (source.Return (source.an_expr (expr_of e)) places.return_) (source.more_stats (ending places.close_brace) source.no_stats)) (record { first = places.open_brace; last = places.close_brace }));
    place = places.name;
    joint_place = places.name;
  }

  abbrev main89 : target.Function
  main89 = main_of (target_of e)

  entered_same : (f : source_frame.Frame) (g : target_frame.Frame) (bound : ℕ) → g.result ≡ int89 → (s : State) → Follows (follow (follow (source_statements.perform_all f bound (source.more_stats (source.Return (source.an_expr (expr_of e)) places.return_) (source.more_stats (ending places.close_brace) source.no_stats)) s) (λ flow. just flow)) (λ flow. just (answer_of flow))) (follow (follow (target_statements.perform_all g bound (target.more_stats (target.Return (target_of e)) target.no_stats) s) (λ flow. just flow)) (λ flow. just (answer_of flow)))
  entered_same f g bound result s =
      follow_same _ _ _ _
      (follow_same (source_statements.perform_all f bound (source.more_stats (source.Return (source.an_expr (expr_of e)) places.return_) (source.more_stats (ending places.close_brace) source.no_stats)) s) (target_statements.perform_all g bound (target.more_stats (target.Return (target_of e)) target.no_stats) s) _ _ (all_same f g bound e places.return_ result (source.more_stats (ending places.close_brace) source.no_stats) s) (λ flow s1. inr refl))
      (λ flow s1. inr refl)

  call_same : (known : Bool) (n : ℕ) (s : State) → Follows (source_run.call_entry unit n (if known then Some main23 else None) [] s) (target_run.call_entry (program_of (target_of e)) n (if known then Some main89 else None) [] s)
  call_same false n s = inr refl
  call_same true zero s = inr refl
  call_same true (suc n) s = turn_same s.turns
    where
      turn_same : (turns : ℕ) → Follows (source_run.call_entry unit (suc n) (Some main23) [] (record s { turns = turns })) (target_run.call_entry (program_of (target_of e)) (suc n) (Some main89) [] (record s { turns = turns }))
      turn_same zero = inr refl
      turn_same (suc turns) = entered_same _ _ n refl _

  no_arguments : (arguments : List Value) → IsEntryForm (form_of_type main_type) arguments → arguments ≡ []
  no_arguments [] is = refl
  no_arguments (v ∷ vs) is = absurd is.1

  entry_arguments : (known : Bool) (f : source.Function) (type : CType) (arguments : List Value) → (if known then Some main23 else None) ≡ Some f → f.type ≡ type → IsEntryForm (form_of_type type) arguments → arguments ≡ []
  entry_arguments false f type arguments named typed is = absurd (let h : None ≡ Some f = named in cc)
  entry_arguments true f type arguments named typed is =
      let found : main23 ≡ f = (let h : Some main23 ≡ Some f = named in cc) in
      no_arguments arguments (subst (λ t. IsEntryForm (form_of_type t) arguments) (sym (ap (λ g. g.type) found ∙ typed)) is)

  runs_same : Same unit (program_of (target_of e))
  runs_same n entry arguments world (type, defines, is) =
      subst (λ vs. IsUndefined (run23 n unit entry vs world) ⊎ (run89 n (program_of (target_of e)) entry vs world ≡ run23 n unit entry vs world))
      (sym (entry_arguments (bytes_eq (codes "main") entry) defines.function type arguments defines.named defines.typed is))
      (run_same _ _ (call_same (bytes_eq (codes "main") entry) n (start_with [] n world)))

  no_call : (x : Expr) → holds_call (target_of x) ≡ false
  no_call (Constant number p) = refl
  no_call (Binary' op p a q b pl) = ap (λ c. c || holds_call (target_of b)) (no_call a) ∙ no_call b

  written : (x : Expr) → WrittenExpr (target_of x)
  written (Constant number p) = number.fits
  written (Binary' op p a q b pl) = (written a, written b)

  has : (names : Names) (x : Expr) → has_type names (target_of x) ≡ true
  has names (Constant number p) = refl
  has names (Binary' op p a q b pl) =
      rw (has names a, has names b, is_written_int names a, is_written_int names b) (takes_ints names.structures op _ _)

  main_is_name : IsName (codes "main")
  main_is_name = record { begins = refl; goes_on = (refl, (refl, (refl, (refl, tt)))); is_no_word = refl }

  typed : Typed (program_of (target_of e))
  typed = record {
    written = record {
      structures = tt;
      outers = ((tt, tt, tt), main_is_name, tt, tt);
      functions = (tt, main_is_name, (tt, tt), tt, (written e, tt), tt);
    };
    types = rw (has _ e, is_written_int _ e) refl;
  }

  -- a function of the unit that is found is the text's
  found_written : (known : Bool) (f : source.Function) (type : CType) → (if known then Some main23 else None) ≡ Some f → f.type ≡ type → (g : target.Function) × ((if known then Some main89 else None) ≡ Some g) × (g.is_static ≡ false) × (target.function_type g ≡ written_type no_names type)
  found_written false f type named typed = absurd (let h : None ≡ Some f = named in cc)
  found_written true f type named typed =
      let found : main23 ≡ f = (let h : Some main23 ≡ Some f = named in cc) in
      (main89, refl, refl, ap (written_type no_names) (ap (λ g. g.type) found ∙ typed))

  written_found : (known : Bool) (g : target.Function) (type : Type89) → (if known then Some main89 else None) ≡ Some g → target.function_type g ≡ type → (f : source.Function) × ((if known then Some main23 else None) ≡ Some f) × (f.is_external ≡ true) × HasBody f.body × (type ≡ written_type no_names f.type)
  written_found false g type named typed = absurd (let h : None ≡ Some g = named in cc)
  written_found true g type named typed =
      let found : main89 ≡ g = (let h : Some main89 ≡ Some g = named in cc) in
      (main23, refl, refl, tt, sym typed ∙ sym (ap target.function_type found))

  exports : Exports unit (program_of (target_of e))
  exports = record {
    names = no_names;
    functions = λ name. (
      λ type d. (let g = found_written (bytes_eq (codes "main") name) d.function type d.named d.typed in record { function = g.0; named = g.1; external = g.2; typed = g.3 }),
      λ type d. (let f = written_found (bytes_eq (codes "main") name) d.function type d.named d.typed in (f.0.type, record { function = f.0; named = f.1; external = f.2; body = f.3; typed = refl }, f.4)),
    );
    objects = λ name. (λ type d. absurd (let h : None ≡ Some d.object = d.named in cc), λ type d. absurd (let h : None ≡ Some d.object = d.named in cc));
    tags = λ id other below too same. absurd (let h : id.0 < 0 = below in omega (arith, h));
    members = λ type id exported reaches. refl;
    values = λ name type held. absurd (let h : None ≡ Some held.object = held.named in cc);
  }

  pub delivers : (text : List ℕ) → text ≡ canonical (program_of (target_of e)) → Delivers unit text
  delivers text spelling = record {
    program = program_of (target_of e);
    reads = subst (λ t. Reads89 t (program_of (target_of e))) (sym spelling) (program_reads (program_of (target_of e)) typed);
    flat = ((no_call e, tt), tt);
    exports = exports;
    same = runs_same;
  }
