-- What the parts of an expression become in a text: steps, each of which has one effect at most, and a value or place
-- that holds behind them (ISO/IEC 9899:1990, 6.3, 6.6).
use Rattle.std.specs.Prelude.{ℕ, ◌+◌, Bool, true, false, ◌&&◌, List, [], ◌∷◌, ◌++◌, length, if◌then◌else◌}
use Rattle.model_types.specs.Structures.{Structure}
use Rattle.model_core.specs.Types89.{Type89, Pointer}
use Rattle.model_core.specs.Program89 as text
use Rattle.c_model.specs.Renamed.{Naming}

-- the names of a text, and the structures of the unit as far as they are known
pub record Setting : Type 0 where
  pub naming : Naming
  pub structs : List Structure

-- temporaries are numbered as they are made; their types stand in this order

-- what is only done
pub record Done : Type 0 where
  pub steps : List text.Stat
  pub temporaries : List Type89

-- a value behind steps; a stable one stays the same, whatever is done behind them
pub record Flat : Type 0 where
  pub steps : List text.Stat
  pub value : text.Expr
  pub is_stable : Bool
  pub temporaries : List Type89

-- a place behind steps, with the type that the text gives it; its address may be a constant while the function runs
pub record Place : Type 0 where
  pub steps : List text.Stat
  pub place : text.Expr
  pub type : Type89
  pub is_constant : Bool
  pub temporaries : List Type89

-- values of a list, each of which holds behind all steps
pub record Flats : Type 0 where
  pub steps : List text.Stat
  pub values : List text.Expr
  pub temporaries : List Type89

abbrev pub nothing : Done
nothing = record { steps = []; temporaries = [] }

abbrev pub pure : text.Expr → (is_stable : Bool) → Flat
pure value is_stable = record { steps = []; value = value; is_stable = is_stable; temporaries = [] }

abbrev pub done_of : Flat → Done
done_of f = record { steps = f.steps; temporaries = f.temporaries }

abbrev pub with_value : (text.Expr → text.Expr) → Flat → Flat
with_value made f = record f { value = made f.value }

-- an expression of type void has steps alone
abbrev pub without_value : Done → Flat
without_value d = record { steps = d.steps; value = text.Constant 0 text.Plain; is_stable = true; temporaries = d.temporaries }

abbrev pub behind : Done → Done → Done
behind d e = record { steps = d.steps ++ e.steps; temporaries = d.temporaries ++ e.temporaries }

abbrev pub stats_of : List text.Stat → text.Stats
stats_of [] = text.no_stats
stats_of (stat ∷ stats) = text.more_stats stat (stats_of stats)

abbrev pub exprs_of : List text.Expr → text.Exprs
exprs_of [] = text.no_exprs
exprs_of (e ∷ es) = text.more_exprs e (exprs_of es)

abbrev pub temporary : Naming → ℕ → text.Expr
temporary n i = text.Name (n.temporary i)

-- ---- a value that is kept where steps follow that may change it: in the temporary of a number

-- the steps and the value then, and the type of the temporary where there is one
pub record Kept : Type 0 where
  pub steps : List text.Stat
  pub value : text.Expr
  pub is_stable : Bool
  pub more : List Type89

abbrev pub as_it_is : Flat → Kept
as_it_is f = record { steps = f.steps; value = f.value; is_stable = f.is_stable; more = [] }

abbrev pub in_temporary : Naming → (i : ℕ) → Type89 → Flat → Kept
in_temporary n i type f =
    record { steps = f.steps ++ text.Assign (temporary n i) f.value ∷ []; value = temporary n i; is_stable = true; more = type ∷ [] }

abbrev pub kept_if : (is_stable : Bool) → Naming → (i : ℕ) → Type89 → Flat → (others : List text.Stat) → Kept
kept_if true n i type f others = as_it_is f
kept_if false n i type f [] = as_it_is f
kept_if false n i type f (step ∷ steps) = in_temporary n i type f

abbrev pub kept : Naming → (i : ℕ) → Type89 → Flat → (others : List text.Stat) → Kept
kept n i type f others = kept_if f.is_stable n i type f others

-- a place whose steps are followed by others: its address is kept
abbrev pub address_in_temporary : Naming → (i : ℕ) → Place → Kept
address_in_temporary n i p = record {
  steps = p.steps ++ text.Assign (temporary n i) (text.Unary text.AddressOf p.place) ∷ [];
  value = text.Unary text.Deref (temporary n i);
  is_stable = true;
  more = Pointer false p.type ∷ [];
}

abbrev pub place_as_it_is : Place → Kept
place_as_it_is p = record { steps = p.steps; value = p.place; is_stable = p.is_constant; more = [] }

abbrev pub kept_place_if : (is_constant : Bool) → Naming → (i : ℕ) → Place → (others : List text.Stat) → Kept
kept_place_if true n i p others = place_as_it_is p
kept_place_if false n i p [] = place_as_it_is p
kept_place_if false n i p (step ∷ steps) = address_in_temporary n i p

abbrev pub kept_place : Naming → (i : ℕ) → Place → (others : List text.Stat) → Kept
kept_place n i p others = kept_place_if p.is_constant n i p others

-- ---- parts one behind the other

-- the number behind temporaries
abbrev pub past : ℕ → List Type89 → ℕ
past i temporaries = i + length temporaries

-- the number behind two parts
abbrev pub past_both : ℕ → (first second : List Type89) → ℕ
past_both i first second = past (past i first) second

abbrev pub two_of : Flat → Flat → Kept → (text.Expr → text.Expr → text.Expr) → Flat
two_of f g k made = record {
  steps = k.steps ++ g.steps;
  value = made k.value g.value;
  is_stable = k.is_stable && g.is_stable;
  temporaries = f.temporaries ++ (g.temporaries ++ k.more);
}

-- two operands, of which the first has a type, from a number on
abbrev pub two : Naming → (i : ℕ) → Type89 → Flat → Flat → (made : text.Expr → text.Expr → text.Expr) → Flat
two n i type f g made = two_of f g (kept n (past_both i f.temporaries g.temporaries) type f g.steps) made

abbrev pub first_and_others : Flat → Flats → Kept → Flats
first_and_others f gs k =
    record { steps = k.steps ++ gs.steps; values = k.value ∷ gs.values; temporaries = f.temporaries ++ (gs.temporaries ++ k.more) }

abbrev pub before_others : Naming → (i : ℕ) → Type89 → Flat → Flats → Flats
before_others n i type f gs = first_and_others f gs (kept n (past_both i f.temporaries gs.temporaries) type f gs.steps)

abbrev pub call_of : Flat → Flats → Kept → Flat
call_of f gs k = record {
  steps = k.steps ++ gs.steps;
  value = text.Call k.value (exprs_of gs.values);
  is_stable = false;
  temporaries = f.temporaries ++ (gs.temporaries ++ k.more);
}

-- what is called, and its arguments
abbrev pub call : Naming → (i : ℕ) → Type89 → Flat → Flats → Flat
call n i type f gs = call_of f gs (kept n (past_both i f.temporaries gs.temporaries) type f gs.steps)

-- a value that is put into a temporary
abbrev pub with_temporary : Flat → Kept → Flat
with_temporary f k = record { steps = k.steps; value = k.value; is_stable = true; temporaries = f.temporaries ++ k.more }

abbrev pub put : Naming → (i : ℕ) → Type89 → Flat → Flat
put n i type f = with_temporary f (in_temporary n (past i f.temporaries) type f)

-- ---- assignments

-- of what is made of a place and a value, to the place
abbrev pub assigned_to : Place → Flat → Kept → (text.Expr → text.Expr → text.Expr) → Done
assigned_to p f k made = record {
  steps = k.steps ++ (f.steps ++ text.Assign k.value (made k.value f.value) ∷ []);
  temporaries = p.temporaries ++ (f.temporaries ++ k.more);
}

abbrev pub assigned : Naming → (i : ℕ) → Place → Flat → (made : text.Expr → text.Expr → text.Expr) → Done
assigned n i p f made = assigned_to p f (kept_place n (past_both i p.temporaries f.temporaries) p f.steps) made

-- with its value: a place of constant address is read again, and else the value is in a temporary before
abbrev pub value_assigned_to : Naming → (j : ℕ) → Type89 → Place → Flat → Kept → (text.Expr → text.Expr → text.Expr) → Flat
value_assigned_to n j type p f k made = record {
  steps = k.steps ++ (f.steps ++ text.Assign (temporary n j) (made k.value f.value) ∷ text.Assign k.value (temporary n j) ∷ []);
  value = temporary n j;
  is_stable = true;
  temporaries = p.temporaries ++ (f.temporaries ++ (k.more ++ type ∷ []));
}

abbrev pub place_read : Place → Done → Flat
place_read p d = record { steps = d.steps; value = p.place; is_stable = false; temporaries = d.temporaries }

abbrev pub value_assigned : Naming → (i : ℕ) → Type89 → Place → Flat → (made : text.Expr → text.Expr → text.Expr) → Flat
value_assigned n i type p f made =
    if p.is_constant then place_read p (assigned n i p f made)
    else (let k = kept_place n (past_both i p.temporaries f.temporaries) p f.steps in
    value_assigned_to n (past (past_both i p.temporaries f.temporaries) k.more) type p f k made)

-- the value that a place has before it is changed
abbrev pub old_value_of : Naming → (j : ℕ) → Type89 → Place → (text.Expr → text.Expr) → Flat
old_value_of n j type p made = record {
  steps = p.steps ++ (text.Assign (temporary n j) p.place ∷ text.Assign p.place (made (temporary n j)) ∷ []);
  value = temporary n j;
  is_stable = true;
  temporaries = p.temporaries ++ type ∷ [];
}

abbrev pub old_value : Naming → (i : ℕ) → Type89 → Place → (made : text.Expr → text.Expr) → Flat
old_value n i type p made = old_value_of n (past i p.temporaries) type p made
