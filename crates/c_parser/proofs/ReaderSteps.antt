-- What each step of the reading shows.
use Rattle.std.proofs.Common.{◌≡◌, ℕ, Bool, true, false, List, [], ◌∷◌, ◌++◌, refl, ap, sym, subst, ◌∙◌, append_assoc, Result, Ok, Err}
use Rattle.std.specs.Prelude.{if◌then◌else◌}
use Rattle.model_grammar.specs.declared.grammar.Rule.{Rule}
use Rattle.model_grammar.specs.declared.grammar.Act.{Act}
use Rattle.model_grammar.specs.declared.grammar.Test.{Test}
use Rattle.model_grammar.specs.declared.grammar.Terminal.{Terminal}
use Rattle.model_tokens.specs.declared.tokens.CTok.{CTok}
use Rattle.model_grammar.specs.SyntaxValues.{Value, leaf_value}
use Rattle.model_grammar.specs.GrammarForm.{Form, word, rule, empty, ◌then◌, ◌or◌, maybe, when, mem}
use Rattle.model_grammar.specs.Grammar.{is_part}
use Rattle.model_grammar.specs.NameScopes.{Scopes, kind, after}
use Rattle.grammar_laws.specs.FirstTokens.{first}
use Rattle.grammar_laws.specs.DepthPlace.{Mark, Piece, AreShallow, EndsDeep, nothing_read, one_token, joined, behind, shown, ends, deeper, is_chain, grown, grown_so_far}
use Rattle.grammar_laws.specs.ParserWalk.{Reads, Fails, Meets, ahead, goes_left}
use Rattle.grammar_laws.specs.WalkedDerivation.{derivation, front, front_with}
use Rattle.grammar_laws.specs.ParserTable.{table}
use Rattle.grammar_laws.specs.ParserSets.{tables}
use Rattle.grammar_laws.specs.ParserTests.{parsed, passes}
use Rattle.grammar_laws.proofs.walks.MarksBehindParts.{derived_behind, begun_behind}
use Rattle.c_parser.specs.declared.heights.Heights.{Heights}
use Rattle.c_parser.specs.declared.heights.Context.{Context}
use Rattle.c_parser.specs.declared.reader.Reader.{Reader}
use Rattle.c_parser.specs.declared.reader.Stop.{Stop}
use Rattle.c_parser.specs.declared.reader.Stop.TheVariants as stop
use Rattle.model_grammar.specs.SyntaxActions.{node_value}
use Rattle.c_parser.specs.TreeValues.{built, only_if}
use Rattle.c_parser.proofs.PutValues.{put_more, put_nothing, put_leaf, put_node}
use Rattle.c_parser.specs.Counting.{counted, Counts, Stands, Tells, next_mark}
use Rattle.c_parser.specs.Reading.{Read, Failed, Met, Told}

-- ---- marks

pub both_shallow : (xs ys : List Mark) → AreShallow xs → AreShallow ys → AreShallow (xs ++ ys)
both_shallow [] ys a b = b
both_shallow (x ∷ xs) ys a b = (a.0, both_shallow xs ys a.1 b)

pub later_deep : (xs ys : List Mark) → AreShallow xs → EndsDeep ys → EndsDeep (xs ++ ys)
later_deep xs ys a d = record {
  before = xs ++ d.before;
  mark = d.mark;
  split = ap (λ z. xs ++ z) d.split ∙ sym (append_assoc xs d.before (d.mark ∷ []));
  shallow = both_shallow xs d.before a d.shallow;
  deep = d.deep;
}

ended_marks : (b : Bool) (p : Piece) → (ends b p).marks ≡ p.marks
ended_marks true p = refl
ended_marks false p = refl

joined_shallow : (b : Bool) (p x : Piece) → AreShallow p.marks → AreShallow (behind p.ending x).marks → AreShallow (joined p (ends b x)).marks
joined_shallow b p x a s = both_shallow p.marks _ a (subst (λ z. AreShallow (shown p.ending z)) (sym (ended_marks b x)) s)

-- ---- a token

pub word_faults : (context : Context) (h : Heights) (ks : List ℕ) (a : Act) (s : Scopes) (ts more : List Terminal) (t : Terminal) → ts ≡ t ∷ more → mem (kind s t) ks ≡ false → Failed (word ks a) context s ts h ts
unfolding grown_so_far front
word_faults context h ks a s ts more t e n = rw e (record { fails = Fails.at_word n; shallow = λ n p s. s.shallow })

pub end_faults : (context : Context) (h : Heights) (ks : List ℕ) (a : Act) (s : Scopes) (ts : List Terminal) → ts ≡ [] → Failed (word ks a) context s ts h ts
unfolding grown_so_far front
end_faults context h ks a s ts e = rw e (record { fails = Fails.at_end; shallow = λ n p s. s.shallow })

pub word_meets : (context : Context) (h : Heights) (ks : List ℕ) (a : Act) (s : Scopes) (ts more : List Terminal) (t : Terminal) (b : Bool) → ts ≡ t ∷ more → mem (kind s t) ks ≡ true → Tells context h b → b ≡ true → Met (word ks a) context s ts h ts
unfolding grown_so_far front_with
word_meets context h ks a s ts more t true e m tell b = rw e (record {
  token = t;
  more = more;
  next = refl;
  meets = Meets.at_word m;
  deep = λ n p s. record { before = p.marks; mark = next_mark n p; split = refl; shallow = s.shallow; deep = tell n p s };
})
word_meets context h ks a s ts more t false e m tell b = absurd (cc)

at_token : (context : Context) (h later : Heights) (b : Bool) → Tells context h b → b ≡ false → ((p : Piece) (n : ℕ) → Counts h p → Counts later (joined p (one_token n)))
    → (n : ℕ) (p : Piece) → Stands context h n p → Stands context later n (joined p (one_token n))
at_token context h later false tell b c n p s = record { parts = s.parts; heights = c p n s.heights; shallow = both_shallow p.marks _ s.shallow (tell n p s, tt) }
at_token context h later true tell b c n p s = absurd (cc)

-- the token is read, and the scopes behind it have this name
record ReadAt (context : Context) (h later : Heights) (ks : List ℕ) (a : Act) (s : Scopes) (t : Terminal) (rest : List Terminal) (names : Scopes) : Type 0 where
  pub reads : Reads tables parsed (word ks a) s (t ∷ rest) (parsed.leaf t ∷ []) names rest
  pub kept : (n : ℕ) (p : Piece) → Stands context h n p → Stands context later n (grown parsed context.chain n (derivation tables parsed reads) p)

read_at : (context : Context) (h later : Heights) (ks : List ℕ) (a : Act) (s : Scopes) (t : Terminal) (rest : List Terminal) → mem (kind s t) ks ≡ true → ((n : ℕ) (p : Piece) → Stands context h n p → Stands context later n (joined p (one_token n))) → ReadAt context h later ks a s t rest (after a s t)
unfolding grown derivation
read_at context h later ks a s t rest m k = record { reads = Reads.a_word m; kept = k }

pub word_reads : {tokens : List CTok} (context : Context) (h : Heights) (ks : List ℕ) (a : Act) (s : Scopes) (ts : List Terminal) (new : Reader) (before later : List Value) (t : Terminal) (b : Bool) → ts ≡ t ∷ new.rest.now → mem (kind s t) ks ≡ true → new.names ≡ after a s t → Tells context h b → b ≡ false
    → ((p : Piece) (n : ℕ) → Counts h p → Counts new.heights (joined p (one_token n))) → later ≡ before ++ only_if context.builds (leaf_value tokens t) → Read tokens (word ks a) context s ts h new before later
word_reads {tokens} context h ks a s ts new before later t b e m q tell f c l =
    let r = subst (λ z. ReadAt context h new.heights ks a s t new.rest.now z) (sym q) (read_at context h new.heights ks a s t new.rest.now m (at_token context h new.heights b tell f c)) in
    rw e (record { trees = parsed.leaf t ∷ []; put = put_leaf context.builds tokens before later t l; reads = r.reads; kept = r.kept })

-- ---- what is read of the form is read of a greater one

pub then_told : {tokens : List CTok} (f g : Form) (context : Context) (old mid new : Reader) (before middle later : List Value) (r : Result (Unit {0}) Stop) → Read tokens f context old.names old.rest.now old.heights mid before middle → Told tokens g context mid new middle later r → Told tokens (f then g) context old new before later r
unfolding grown grown_so_far derivation front front_with
then_told {tokens} f g context old mid new before middle later (Ok _) p q = record { trees = p.trees ++ q.trees; put = put_more context.builds tokens before middle later p.trees q.trees p.put q.put; reads = Reads.both p.reads q.reads refl; kept = λ n b s. q.kept n _ (p.kept n b s) }
then_told f g context old mid new before middle later (Err stop.Fault) p q = record { fails = Fails.in_then p.reads q.fails; shallow = λ n b s. q.shallow n _ (p.kept n b s) }
then_told f g context old mid new before middle later (Err stop.Deep) p q = record { token = q.token; more = q.more; next = q.next; meets = Meets.in_then p.reads q.meets; deep = λ n b s. q.deep n _ (p.kept n b s) }
then_told f g context old mid new before middle later (Err stop.Memory) p q = tt

pub first_told : (tokens : List CTok) (f g : Form) (context : Context) (old new : Reader) (before later : List Value) (e : Stop) → Told tokens f context old new before later (Err e) → Told tokens (f then g) context old new before later (Err e)
unfolding grown_so_far front front_with
first_told tokens f g context old new before later stop.Fault q = record { fails = Fails.in_first q.fails; shallow = λ n b s. q.shallow n b s }
first_told tokens f g context old new before later stop.Deep q = record { token = q.token; more = q.more; next = q.next; meets = Meets.in_first q.meets; deep = λ n b s. q.deep n b s }
first_told tokens f g context old new before later stop.Memory q = tt

pub left_told : (tokens : List CTok) (f g : Form) (context : Context) (old new : Reader) (before later : List Value) (r : Result (Unit {0}) Stop) → goes_left tables parsed f g (ahead tables parsed old.names old.rest.now) ≡ true → Told tokens f context old new before later r → Told tokens (f or g) context old new before later r
unfolding grown grown_so_far derivation front front_with
left_told tokens f g context old new before later (Ok _) b q = record { trees = q.trees; put = q.put; reads = Reads.left b q.reads; kept = λ n p s. q.kept n p s }
left_told tokens f g context old new before later (Err stop.Fault) b q = record { fails = Fails.in_left b q.fails; shallow = λ n p s. q.shallow n p s }
left_told tokens f g context old new before later (Err stop.Deep) b q = record { token = q.token; more = q.more; next = q.next; meets = Meets.in_left b q.meets; deep = λ n p s. q.deep n p s }
left_told tokens f g context old new before later (Err stop.Memory) b q = tt

pub right_told : (tokens : List CTok) (f g : Form) (context : Context) (old new : Reader) (before later : List Value) (r : Result (Unit {0}) Stop) → goes_left tables parsed f g (ahead tables parsed old.names old.rest.now) ≡ false → Told tokens g context old new before later r → Told tokens (f or g) context old new before later r
unfolding grown grown_so_far derivation front front_with
right_told tokens f g context old new before later (Ok _) b q = record { trees = q.trees; put = q.put; reads = Reads.right b q.reads; kept = λ n p s. q.kept n p s }
right_told tokens f g context old new before later (Err stop.Fault) b q = record { fails = Fails.in_right b q.fails; shallow = λ n p s. q.shallow n p s }
right_told tokens f g context old new before later (Err stop.Deep) b q = record { token = q.token; more = q.more; next = q.next; meets = Meets.in_right b q.meets; deep = λ n p s. q.deep n p s }
right_told tokens f g context old new before later (Err stop.Memory) b q = tt

pub take_told : (tokens : List CTok) (f : Form) (context : Context) (old new : Reader) (before later : List Value) (r : Result (Unit {0}) Stop) → mem (ahead tables parsed old.names old.rest.now) (first tables f) ≡ true → Told tokens f context old new before later r → Told tokens (maybe f) context old new before later r
unfolding grown grown_so_far derivation front front_with
take_told tokens f context old new before later (Ok _) b q = record { trees = q.trees; put = q.put; reads = Reads.take b q.reads; kept = λ n p s. q.kept n p s }
take_told tokens f context old new before later (Err stop.Fault) b q = record { fails = Fails.in_maybe b q.fails; shallow = λ n p s. q.shallow n p s }
take_told tokens f context old new before later (Err stop.Deep) b q = record { token = q.token; more = q.more; next = q.next; meets = Meets.in_maybe b q.meets; deep = λ n p s. q.deep n p s }
take_told tokens f context old new before later (Err stop.Memory) b q = tt

pub chosen_told : (tokens : List CTok) (t : Test) (f g : Form) (context : Context) (old new : Reader) (before later : List Value) (r : Result (Unit {0}) Stop) → passes t old.names old.rest.now ≡ true → Told tokens f context old new before later r → Told tokens (when t f g) context old new before later r
unfolding grown grown_so_far derivation front front_with
chosen_told tokens t f g context old new before later (Ok _) b q = record { trees = q.trees; put = q.put; reads = Reads.chosen b q.reads; kept = λ n p s. q.kept n p s }
chosen_told tokens t f g context old new before later (Err stop.Fault) b q = record { fails = Fails.in_chosen b q.fails; shallow = λ n p s. q.shallow n p s }
chosen_told tokens t f g context old new before later (Err stop.Deep) b q = record { token = q.token; more = q.more; next = q.next; meets = Meets.in_chosen b q.meets; deep = λ n p s. q.deep n p s }
chosen_told tokens t f g context old new before later (Err stop.Memory) b q = tt

pub other_told : (tokens : List CTok) (t : Test) (f g : Form) (context : Context) (old new : Reader) (before later : List Value) (r : Result (Unit {0}) Stop) → passes t old.names old.rest.now ≡ false → Told tokens g context old new before later r → Told tokens (when t f g) context old new before later r
unfolding grown grown_so_far derivation front front_with
other_told tokens t f g context old new before later (Ok _) b q = record { trees = q.trees; put = q.put; reads = Reads.other b q.reads; kept = λ n p s. q.kept n p s }
other_told tokens t f g context old new before later (Err stop.Fault) b q = record { fails = Fails.in_other b q.fails; shallow = λ n p s. q.shallow n p s }
other_told tokens t f g context old new before later (Err stop.Deep) b q = record { token = q.token; more = q.more; next = q.next; meets = Meets.in_other b q.meets; deep = λ n p s. q.deep n p s }
other_told tokens t f g context old new before later (Err stop.Memory) b q = tt

pub none_told : {tokens : List CTok} (context : Context) (before : List Value) (p : Reader) → Read tokens empty context p.names p.rest.now p.heights p before before
unfolding grown derivation
none_told {tokens} context before p = record { trees = []; put = put_nothing context.builds tokens before; reads = Reads.nothing; kept = λ n p s. s }

pub skip_told : {tokens : List CTok} (f : Form) (context : Context) (before : List Value) (p : Reader) → mem (ahead tables parsed p.names p.rest.now) (first tables f) ≡ false → Read tokens (maybe f) context p.names p.rest.now p.heights p before before
unfolding grown derivation
skip_told {tokens} f context before p b = record { trees = []; put = put_nothing context.builds tokens before; reads = Reads.skip b; kept = λ n p s. s }

-- ---- a nonterminal

-- where its body is read
pub record Inside (n : Rule) (context inner : Context) (h start : Heights) : Type 0 where
  pub parts : (m : ℕ) → context.parts ≡ counted m → inner.parts ≡ counted (deeper (is_part n) m)
  pub chain : inner.chain ≡ is_chain n
  pub builds : inner.builds ≡ context.builds
  pub heights : (p : Piece) → Counts h p → Counts start (behind p.ending nothing_read)

stands_inside : (r : Rule) (context inner : Context) (h start : Heights) → Inside r context inner h start → (n : ℕ) (p : Piece) → Stands context h n p → Stands inner start (deeper (is_part r) n) (behind p.ending nothing_read)
stands_inside r context inner h start i n p s = record { parts = i.parts n s.parts; heights = i.heights p s.heights; shallow = tt }

pub rule_told : {tokens : List CTok} (r : Rule) (f : Form) (context inner : Context) (s : Scopes) (ts : List Terminal) (h start later_heights : Heights) (new : Reader) (closed : Scopes) (before later none inside : List Value) → Inside r context inner h start → f ≡ table r → none ≡ [] → Read tokens f inner s ts start new none inside
    → ((p x : Piece) → Counts h p → Counts new.heights (behind p.ending x) → Counts later_heights (joined p (ends (is_part r) x)))
    → closed ≡ parsed.close r new.names → later ≡ before ++ only_if context.builds (node_value r inside) → Read tokens (rule r) context s ts h (record { rest = new.rest; names = closed; heights = later_heights }) before later
unfolding grown derivation
rule_told {tokens} r f context inner s ts h start later_heights new closed before later none inside i e o a c k l = subst (λ z. Read tokens (rule r) context s ts h (record { rest = new.rest; names = z; heights = later_heights }) before later) (sym k) (record {
  trees = parsed.node r body.trees ∷ [];
  put = put_node context.builds tokens before later inside r body.trees l (body.put ∙ ap (λ b. built b tokens body.trees) i.builds);
  reads = Reads.a_rule body.reads;
  kept = λ n p q.
      let x = grown parsed (is_chain r) (deeper (is_part r) n) (derivation tables parsed body.reads) nothing_read in
      let z = body.kept _ _ (stands_inside r context inner h start i n p q) in
      let w : grown parsed inner.chain (deeper (is_part r) n) (derivation tables parsed body.reads) (behind p.ending nothing_read) ≡ behind p.ending x = ap (λ b. grown parsed b (deeper (is_part r) n) (derivation tables parsed body.reads) (behind p.ending nothing_read)) i.chain ∙ derived_behind parsed (derivation tables parsed body.reads) (is_chain r) (deeper (is_part r) n) p.ending nothing_read in
      let y = subst (λ v. Stands inner new.heights (deeper (is_part r) n) v) w z in
      record { parts = q.parts; heights = c p x q.heights y.heights; shallow = joined_shallow (is_part r) p x q.shallow y.shallow };
})
  where
    body : Read tokens (table r) inner s ts start new [] inside
    body = subst (λ z. Read tokens (table r) inner s ts start new z inside) o (subst (λ g. Read tokens g inner s ts start new none inside) e a)

-- likewise an unfinished one
pub rule_stops : (tokens : List CTok) (r : Rule) (f : Form) (context inner : Context) (s : Scopes) (rest : List Terminal) (start : Heights) (old new : Reader) (before later before' later' : List Value) (x : Stop) → Inside r context inner old.heights start → f ≡ table r → Told tokens f inner (record { rest = old.rest; names = old.names; heights = start }) new before later (Err x) → Told tokens (rule r) context old new before' later' (Err x)
unfolding grown_so_far front front_with
rule_stops tokens r f context inner s rest start old new before later before' later' stop.Fault i e a = record {
  fails = Fails.in_rule body.fails;
  shallow = λ n p q.
      let d = front tables parsed body.fails in
      let w : grown_so_far parsed inner.chain (deeper (is_part r) n) d (behind p.ending nothing_read) ≡ behind p.ending (grown_so_far parsed (is_chain r) (deeper (is_part r) n) d nothing_read) = ap (λ b. grown_so_far parsed b (deeper (is_part r) n) d (behind p.ending nothing_read)) i.chain ∙ begun_behind parsed d (is_chain r) (deeper (is_part r) n) p.ending nothing_read in
      both_shallow p.marks _ q.shallow (subst (λ v. AreShallow v.marks) w (body.shallow _ _ (stands_inside r context inner old.heights start i n p q)));
}
  where
    body : Failed (table r) inner old.names old.rest.now start new.rest.now
    body = subst (λ g. Failed g inner old.names old.rest.now start new.rest.now) e a
rule_stops tokens r f context inner s rest start old new before later before' later' stop.Deep i e a = record {
  token = body.token;
  more = body.more;
  next = body.next;
  meets = Meets.in_rule body.meets;
  deep = λ n p q.
      let d = front_with tables parsed body.meets in
      let w : grown_so_far parsed inner.chain (deeper (is_part r) n) d (behind p.ending nothing_read) ≡ behind p.ending (grown_so_far parsed (is_chain r) (deeper (is_part r) n) d nothing_read) = ap (λ b. grown_so_far parsed b (deeper (is_part r) n) d (behind p.ending nothing_read)) i.chain ∙ begun_behind parsed d (is_chain r) (deeper (is_part r) n) p.ending nothing_read in
      later_deep p.marks _ q.shallow (subst (λ v. EndsDeep v.marks) w (body.deep _ _ (stands_inside r context inner old.heights start i n p q)));
}
  where
    body : Met (table r) inner old.names old.rest.now start new.rest.now
    body = subst (λ g. Met g inner old.names old.rest.now start new.rest.now) e a
rule_stops tokens r f context inner s rest start old new before later before' later' stop.Memory i e a = tt
