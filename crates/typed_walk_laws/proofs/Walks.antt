-- Parts one after another: what holds behind each, holds behind all of them.
use Rattle.std.proofs.Common.{◌≡◌, refl, Bool, true, false, List, Option, Some, None, Result, Ok, Err}
use Rattle.std.specs.Result.{IfOk}
use Rattle.cake_base.specs.declared.rules.Fault.{Fault}
use Rattle.model_types.specs.Structures.{Structure}
use Rattle.model_grammar.specs.SyntaxForms as syntax
use Rattle.c_tree.specs.SyntaxPlaces.{expr_first}
use Rattle.model_checking.specs.State.{State, Both, Answer, gives, then_do, unless, beside, with_state}
use Rattle.model_checking.specs.FaultsBeside.{with_fault}
use Rattle.model_checking.specs.Meanings.{Meaning, Operand}
use Rattle.model_checking.specs.MadeCore.{operand}
use Rattle.model_checking.specs.Reading.{as_operand}
use Rattle.typed_rule_laws.specs.TypedMeanings.{is_typed_meaning, is_typed_operand}
use Rattle.typed_rule_laws.proofs.Values.{value_is_operand}
use Rattle.typed_walk_laws.specs.SoundScopes.{are_sound}
use Rattle.typed_walk_laws.specs.Behind.{TypesKept, Behind, SoundBoth, GivesSound}

-- what is asked of a part's answer, by the structures behind it
abbrev pub Wanted : Type 0 → Type 1
Wanted A = List Structure → A → Type 0

pub all_kept : (structs : List Structure) → TypesKept structs structs
all_kept structs = record { possible = λ t h. h; complete = λ t h. h; length = λ t n h. h }

pub kept_both : (a b c : List Structure) → TypesKept a b → TypesKept b c → TypesKept a c
kept_both a b c h k = record {
  possible = λ t p. k.possible t (h.possible t p);
  complete = λ t p. k.complete t (h.complete t p);
  length = λ t n p. k.length t n (h.length t n p);
}

-- a state with the same scopes, and one behind two others
pub behind_here : (s : State) → are_sound s.scopes ≡ true → Behind s s
behind_here s h = record { sound = h; kept = all_kept s.scopes.structs }

pub behind_both : (a b c : State) → Behind a b → Behind b c → Behind a c
behind_both a b c h k = record { sound = k.sound; kept = kept_both a.scopes.structs b.scopes.structs c.scopes.structs h.kept k.kept }

pub from_before : {A : Type 0} (P : Wanted A) (a b : State) (r : Answer A) → Behind a b → GivesSound b P r → GivesSound a P r
from_before P a b (Ok x) h k = (behind_both a b x.state h k.0, k.1)
from_before P a b (Err fault) h k = tt

pub after : {A B : Type 0} (P : Wanted A) (Q : Wanted B) (before : State) (r : Answer A) (go : A → State → Answer B) → GivesSound before P r →
    ((x : A) (s : State) → Behind before s → P s.scopes.structs x → GivesSound s Q (go x s)) → GivesSound before Q (then_do r go)
after P Q before (Ok x) go h k = from_before Q before x.state (go x.made x.state) h.0 (k x.made x.state h.0 h.1)
after P Q before (Err fault) go h k = tt

pub after_unless : {A : Type 0} (P : A → Type 0) (o : Option Fault) (r : Result A Fault) → (o ≡ None → IfOk r P) → IfOk (unless o r) P
after_unless P None r h = h refl
after_unless P (Some fault) r h = tt

pub after_fault : {A : Type 0} (P : A → Type 0) (o : Option Fault) (r : Result A Fault) → (o ≡ None → IfOk r P) → IfOk (with_fault o r) P
after_fault P None r h = h refl
after_fault P (Some fault) (Ok x) h = tt
after_fault P (Some fault) (Err other) h = tt

pub by_rule : {A : Type 0} (P : Wanted A) (before s : State) (r : Result A Fault) → Behind before s → IfOk r (P s.scopes.structs) → GivesSound before P (with_state r s)
by_rule P before s (Ok x) h k = (h, k)
by_rule P before s (Err fault) h k = tt

pub given : {A : Type 0} (P : Wanted A) (s : State) (x : A) → are_sound s.scopes ≡ true → P s.scopes.structs x → GivesSound s P (gives x s)
given P s x h p = (behind_here s h, p)

-- ---- what expressions mean, and their operands

abbrev pub TypedMeaning : List Structure → Meaning → Type 0
TypedMeaning structs m = is_typed_meaning structs m ≡ true

abbrev pub TypedOperand : List Structure → Operand → Type 0
TypedOperand structs o = is_typed_operand structs o.value ≡ true

abbrev pub Anything : {A : Type 0} → List Structure → A → Type 0
Anything structs x = true ≡ true

pub operand_given : (e : syntax.Expr) (before : State) (r : Answer Meaning) → GivesSound before TypedMeaning r → GivesSound before TypedOperand (as_operand e r)
operand_given e before (Ok x) h = (h.0, value_is_operand x.state.scopes.structs x.made h.1)
operand_given e before (Err fault) h = tt
