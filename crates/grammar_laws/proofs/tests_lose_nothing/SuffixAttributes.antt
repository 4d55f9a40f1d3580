-- The test of the attributes behind an array or a list of parameters loses nothing: where an attribute comes next, it
-- is theirs, and no array begins so.
use Rattle.std.proofs.Common.{◌≡◌, ℕ, Bool, true, false, ◌||◌, List, [], ◌∷◌, refl}
use Rattle.std.specs.Prelude.{◌==◌}
use Rattle.model_grammar.specs.declared.grammar.Rule.TheVariants as r
use Rattle.model_grammar.specs.declared.grammar.Act.TheVariants as act
use Rattle.model_grammar.specs.declared.grammar.Test.TheVariants as test
use Rattle.model_grammar.specs.declared.grammar.Terminal.{Terminal}
use Rattle.model_grammar.specs.declared.grammar.Tree.{Tree}
use Rattle.model_grammar.specs.GrammarForm.{word, rule, maybe, mem}
use Rattle.model_grammar.specs.Grammar.{grammar}
use Rattle.model_grammar.specs.Terminals as k
use Rattle.model_grammar.specs.NameScopes.{Scopes}
use Rattle.model_grammar.specs.Derivation.{Derives, Begins}
use Rattle.grammar_laws.specs.FirstTokens.{first, nullable}
use Rattle.grammar_laws.specs.ParserWalk.{ahead}
use Rattle.grammar_laws.specs.ParserTable.{table}
use Rattle.grammar_laws.specs.ParserSets.{tables, firsts}
use Rattle.grammar_laws.specs.ParserTests.{parsed, sees_attribute}
use Rattle.grammar_laws.proofs.walks.DecidedDerivations.{begun}
use Rattle.grammar_laws.proofs.walks.ParserDecided.{quiet, checked}
use Rattle.grammar_laws.proofs.tests_lose_nothing.AbstractDeclarator.{IsLittle}
use Rattle.grammar_laws.proofs.tests_lose_nothing.TestedLoops.{looped}
use Rattle.grammar_laws.proofs.tests_lose_nothing.Parameter.{seen}
use Rattle.grammar_laws.proofs.tests_lose_nothing.LosesNothing.{starts}
use Rattle.grammar_laws.proofs.tests_lose_nothing.DeclaratorAttributes.{IsAttributed, attributes_begun, behind_attributes, little_attribute}
use Rattle.grammar_laws.proofs.tests_lose_nothing.SuffixEnds.{is_suffix, ends_open, IsKept, IsBegun, IsProduced}

-- where no attribute comes next
closed : {s new : Scopes} {ts rest : List Terminal} {xs : List Tree} → sees_attribute rest ≡ false → Derives parsed (grammar r.Suffix) s ts xs new rest
    → Derives parsed (table r.Suffix) s ts xs new rest
unfolding grammar table
closed b (Derives.left (Derives.both w (Derives.both c (Derives.both v m p) q) z)) =
    Derives.left (Derives.both w (Derives.both c (Derives.both v (looped test.AttributeAhead (rule r.Attr) seen m b) p) q) z)
closed b (Derives.right (Derives.both w (Derives.both c (Derives.both v m p) q) z)) =
    Derives.right (Derives.both w (Derives.both c (Derives.both v (looped test.AttributeAhead (rule r.Attr) seen m b) p) q) z)

-- where one does, it goes on
further : {s new : Scopes} {ts rest more : List Terminal} {xs : List Tree} → sees_attribute rest ≡ true → IsLittle rest more
    → Derives parsed (grammar r.Suffix) s ts xs new rest → Begins parsed (table r.Suffix) s ts more
unfolding grammar table
further b l (Derives.left (Derives.both w (Derives.both c (Derives.both v m p) q) z)) =
    Begins.in_left (Begins.in_then w (Begins.in_then c (Begins.in_then v (behind_attributes m (little_attribute b l)))))
further b l (Derives.right (Derives.both w (Derives.both c (Derives.both v m p) q) z)) =
    Begins.in_right (Begins.in_then w (Begins.in_then c (Begins.in_then v (behind_attributes m (little_attribute b l)))))

suffix_moves : nullable tables (grammar r.Suffix) ≡ false
unfolding nullable grammar
suffix_moves = refl

suffix_first : first tables (grammar r.Suffix) ≡ k.OpenBracket ∷ k.OpenParenthesis ∷ []
unfolding first nullable grammar
suffix_first = refl

suffix_firsts : firsts r.Suffix ≡ k.OpenParenthesis ∷ k.OpenBracket ∷ []
unfolding firsts
suffix_firsts = refl

turned : (F G : List ℕ) (j : ℕ) → F ≡ k.OpenBracket ∷ k.OpenParenthesis ∷ [] → G ≡ k.OpenParenthesis ∷ k.OpenBracket ∷ [] → mem j F ≡ true → mem j G ≡ true
unfolding mem
turned F G j p q h = rw q (swapped (j == k.OpenBracket) (j == k.OpenParenthesis) (rw p at h))
  where
    swapped : (a b : Bool) → (a || (b || false)) ≡ true → (b || (a || false)) ≡ true
    swapped true true h = refl
    swapped true false h = refl
    swapped false true h = refl
    swapped false false h = h

kept : (b : Bool) (s mid : Scopes) (ts rest : List Terminal) (xs : List Tree) → sees_attribute rest ≡ b → Derives parsed (grammar r.Suffix) s ts xs mid rest
    → IsKept (rule r.Suffix) s ts (parsed.close r.Suffix mid) rest
unfolding ends_open is_suffix first
kept false s mid ts rest xs b d = IsKept.whole (Derives.a_rule (closed b d))
kept true s mid ts rest xs b d = IsKept.half refl b (turned _ _ (ahead tables parsed s ts) suffix_first suffix_firsts (starts suffix_moves d)) (λ more l. Begins.in_rule (further b l d))

-- attributes that are begun
at_array : {s m n o : Scopes} {ts us vs ws rest : List Terminal} {xs ys zs : List Tree} → Derives parsed (word (k.OpenBracket ∷ []) act.OpenArray) s ts xs m us
    → Derives parsed (maybe (rule r.Cond)) m us ys n vs → Derives parsed (word (k.CloseBracket ∷ []) act.CloseArray) n vs zs o ws → IsAttributed o ws rest
    → IsBegun (rule r.Suffix) s ts rest
unfolding table ends_open is_suffix
at_array w c v (IsAttributed.held b) = IsBegun.held (Begins.in_rule (Begins.in_left (Begins.in_then w (Begins.in_then c (Begins.in_then v b)))))
at_array w c v (IsAttributed.ended l IsLittle.unread) = IsBegun.held (Begins.in_rule (Begins.in_left (Begins.in_then w (Begins.in_then c (Begins.in_then v (begun tables parsed quiet checked l))))))
at_array w c v (IsAttributed.ended l (IsLittle.bracket h)) = IsBegun.ended refl (Derives.a_rule (Derives.left (Derives.both w (Derives.both c (Derives.both v l refl) refl) refl))) h

at_parameters : {s m n o : Scopes} {ts us vs ws rest : List Terminal} {xs ys zs : List Tree}
    → Derives parsed (word (k.OpenParenthesis ∷ []) act.OpenParameters) s ts xs m us → Derives parsed (maybe (rule r.Params)) m us ys n vs
    → Derives parsed (word (k.CloseParenthesis ∷ []) act.CloseParameters) n vs zs o ws → IsAttributed o ws rest → IsBegun (rule r.Suffix) s ts rest
unfolding table ends_open is_suffix
at_parameters w c v (IsAttributed.held b) = IsBegun.held (Begins.in_rule (Begins.in_right (Begins.in_then w (Begins.in_then c (Begins.in_then v b)))))
at_parameters w c v (IsAttributed.ended l IsLittle.unread) =
    IsBegun.held (Begins.in_rule (Begins.in_right (Begins.in_then w (Begins.in_then c (Begins.in_then v (begun tables parsed quiet checked l))))))
at_parameters w c v (IsAttributed.ended l (IsLittle.bracket h)) = IsBegun.ended refl (Derives.a_rule (Derives.right (Derives.both w (Derives.both c (Derives.both v l refl) refl) refl))) h

suffix_begun : (s : Scopes) (ts rest : List Terminal) → Begins parsed (grammar r.Suffix) s ts rest → IsBegun (rule r.Suffix) s ts rest
unfolding grammar table
suffix_begun s ts rest Begins.yet = IsBegun.held Begins.yet
suffix_begun s ts rest (Begins.in_left Begins.yet) = IsBegun.held Begins.yet
suffix_begun s ts rest (Begins.in_left (Begins.in_first w)) = IsBegun.held (Begins.in_rule (Begins.in_left (Begins.in_first w)))
suffix_begun s ts rest (Begins.in_left (Begins.in_then w Begins.yet)) = IsBegun.held (Begins.in_rule (Begins.in_left (Begins.in_then w Begins.yet)))
suffix_begun s ts rest (Begins.in_left (Begins.in_then w (Begins.in_first c))) = IsBegun.held (Begins.in_rule (Begins.in_left (Begins.in_then w (Begins.in_first c))))
suffix_begun s ts rest (Begins.in_left (Begins.in_then w (Begins.in_then c Begins.yet))) = IsBegun.held (Begins.in_rule (Begins.in_left (Begins.in_then w (Begins.in_then c Begins.yet))))
suffix_begun s ts rest (Begins.in_left (Begins.in_then w (Begins.in_then c (Begins.in_first v)))) =
    IsBegun.held (Begins.in_rule (Begins.in_left (Begins.in_then w (Begins.in_then c (Begins.in_first v)))))
suffix_begun s ts rest (Begins.in_left (Begins.in_then w (Begins.in_then c (Begins.in_then v b)))) = at_array w c v (attributes_begun b)
suffix_begun s ts rest (Begins.in_right Begins.yet) = IsBegun.held Begins.yet
suffix_begun s ts rest (Begins.in_right (Begins.in_first w)) = IsBegun.held (Begins.in_rule (Begins.in_right (Begins.in_first w)))
suffix_begun s ts rest (Begins.in_right (Begins.in_then w Begins.yet)) = IsBegun.held (Begins.in_rule (Begins.in_right (Begins.in_then w Begins.yet)))
suffix_begun s ts rest (Begins.in_right (Begins.in_then w (Begins.in_first c))) = IsBegun.held (Begins.in_rule (Begins.in_right (Begins.in_then w (Begins.in_first c))))
suffix_begun s ts rest (Begins.in_right (Begins.in_then w (Begins.in_then c Begins.yet))) = IsBegun.held (Begins.in_rule (Begins.in_right (Begins.in_then w (Begins.in_then c Begins.yet))))
suffix_begun s ts rest (Begins.in_right (Begins.in_then w (Begins.in_then c (Begins.in_first v)))) =
    IsBegun.held (Begins.in_rule (Begins.in_right (Begins.in_then w (Begins.in_then c (Begins.in_first v)))))
suffix_begun s ts rest (Begins.in_right (Begins.in_then w (Begins.in_then c (Begins.in_then v b)))) = at_parameters w c v (attributes_begun b)

pub suffix : IsProduced r.Suffix
suffix = record { derived = λ s mid ts rest xs c d h. kept (sees_attribute rest) s mid ts rest xs refl d; begun = λ s ts rest c d. suffix_begun s ts rest d }
