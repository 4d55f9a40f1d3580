-- What one more turn of a repeated form shows, and what all turns show.
use Rattle.std.proofs.Common.{◌≡◌, ℕ, ◌<◌, ◌≤◌, Bool, true, false, not, List, [], ◌++◌, length, refl, ap, sym, subst, ◌∙◌, arith, append_assoc, Err}
use Rattle.std.specs.Prelude.{if◌then◌else◌}
use Rattle.model_grammar.specs.declared.grammar.Test.{Test}
use Rattle.model_grammar.specs.declared.grammar.Terminal.{Terminal}
use Rattle.model_grammar.specs.declared.grammar.Tree.{Tree}
use Rattle.model_tokens.specs.declared.tokens.CTok.{CTok}
use Rattle.model_grammar.specs.SyntaxValues.{Value}
use Rattle.model_grammar.specs.GrammarForm.{Form, many, loop, mem}
use Rattle.model_grammar.specs.NameScopes.{Scopes}
use Rattle.grammar_laws.specs.FirstTokens.{first}
use Rattle.grammar_laws.specs.DepthPlace.{Piece, AreShallow, EndsDeep, nothing_read, joined, chained, behind, grown, grown_so_far}
use Rattle.grammar_laws.specs.apparatus.LeftWeights.{IsWalkable}
use Rattle.grammar_laws.specs.ParserWalk.{Reads, Fails, Meets, ahead}
use Rattle.grammar_laws.specs.WalkedDerivation.{derivation, front, front_with}
use Rattle.grammar_laws.specs.ParserSets.{tables}
use Rattle.grammar_laws.specs.ParserTests.{parsed, passes}
use Rattle.grammar_laws.proofs.walks.MarksBehindParts.{derived_behind, begun_behind}
use Rattle.grammar_laws.proofs.walks.TotalWalk.{many_moves, loop_moves}
use Rattle.c_parser.specs.declared.heights.Heights.{Heights}
use Rattle.c_parser.specs.declared.heights.Context.{Context}
use Rattle.c_parser.specs.declared.reader.Reader.{Reader}
use Rattle.c_parser.specs.declared.reader.Stop.{Stop}
use Rattle.c_parser.specs.declared.reader.Stop.TheVariants as stop
use Rattle.c_parser.specs.Counting.{Counts, Stands}
use Rattle.c_parser.specs.Reading.{Read, Told, ReadTurn, ToldTurn}
use Rattle.c_parser.specs.TreeValues.{built}
use Rattle.c_parser.proofs.PutValues.{put_more, put_none, put_nothing}
use Rattle.c_parser.proofs.ReaderSteps.{both_shallow, later_deep}

-- ---- one turn

a_chain : (b : Bool) (x y : Piece) → b ≡ true → x ≡ (if b then x else y)
a_chain true x y e = refl
a_chain false x y e = absurd (cc)

pub unless_not : (b : Bool) → not b ≡ false → b ≡ true
unless_not true e = refl
unless_not false e = absurd (cc)

stands_inside : (context inner : Context) (h start : Heights) (n : ℕ) (p : Piece) → inner ≡ record { parts = context.parts; chain = false; builds = context.builds } → ((p : Piece) → Counts h p → Counts start (behind p.ending nothing_read)) → Stands context h n p → Stands inner start n (behind p.ending nothing_read)
stands_inside context inner h start n p e i s = record { parts = ap (λ z. z.parts) e ∙ s.parts; heights = i p s.heights; shallow = tt }

-- where the form is a chain
pub chain_turn : {tokens : List CTok} (f : Form) (context inner : Context) (old new : Reader) (start later_heights : Heights) (before later : List Value) → context.chain ≡ true → inner ≡ record { parts = context.parts; chain = false; builds = context.builds }
    → ((p : Piece) → Counts old.heights p → Counts start (behind p.ending nothing_read)) → Read tokens f inner old.names old.rest.now start new before later
    → ((p x : Piece) → Counts old.heights p → Counts new.heights (behind p.ending x) → Counts later_heights (chained p x)) → ReadTurn tokens f context old (record { rest = new.rest; names = new.names; heights = later_heights }) before later
chain_turn {tokens} f context inner old new start later_heights before later e k i a c = record {
  trees = a.trees;
  put = a.put ∙ ap (λ z. before ++ built z.builds tokens a.trees) k;
  reads = a.reads;
  kept = λ n p s.
      let d = derivation tables parsed a.reads in
      let x = grown parsed false n d nothing_read in
      let w : grown parsed inner.chain n d (behind p.ending nothing_read) ≡ behind p.ending x = ap (λ b. grown parsed b n d (behind p.ending nothing_read)) (ap (λ z. z.chain) k) ∙ derived_behind parsed d false n p.ending nothing_read in
      let y = subst (λ v. Stands inner new.heights n v) w (a.kept _ _ (stands_inside context inner old.heights start n p k i s)) in
      subst (λ z. Stands context later_heights n z) (a_chain context.chain (chained p x) _ e) (record { parts = s.parts; heights = c p x s.heights y.heights; shallow = both_shallow p.marks _ s.shallow y.shallow });
}

pub chain_stops : (tokens : List CTok) (f : Form) (context inner : Context) (old new : Reader) (start : Heights) (before later : List Value) (x : Stop) → context.chain ≡ true → inner ≡ record { parts = context.parts; chain = false; builds = context.builds }
    → ((p : Piece) → Counts old.heights p → Counts start (behind p.ending nothing_read)) → Told tokens f inner (record { rest = old.rest; names = old.names; heights = start }) new before later (Err x) → ToldTurn tokens f context old new before later (Err x)
chain_stops tokens f context inner old new start before later stop.Fault e k i a = record {
  fails = a.fails;
  shallow = λ n p s.
      let d = front tables parsed a.fails in
      let w : grown_so_far parsed inner.chain n d (behind p.ending nothing_read) ≡ behind p.ending (grown_so_far parsed false n d nothing_read) = ap (λ b. grown_so_far parsed b n d (behind p.ending nothing_read)) (ap (λ z. z.chain) k) ∙ begun_behind parsed d false n p.ending nothing_read in
      let y = subst (λ v. AreShallow v.marks) w (a.shallow _ _ (stands_inside context inner old.heights start n p k i s)) in
      subst (λ z. AreShallow z.marks) (a_chain context.chain (joined p (grown_so_far parsed false n d nothing_read)) _ e) (both_shallow p.marks _ s.shallow y);
}
chain_stops tokens f context inner old new start before later stop.Deep e k i a = record {
  token = a.token;
  more = a.more;
  next = a.next;
  meets = a.meets;
  deep = λ n p s.
      let d = front_with tables parsed a.meets in
      let w : grown_so_far parsed inner.chain n d (behind p.ending nothing_read) ≡ behind p.ending (grown_so_far parsed false n d nothing_read) = ap (λ b. grown_so_far parsed b n d (behind p.ending nothing_read)) (ap (λ z. z.chain) k) ∙ begun_behind parsed d false n p.ending nothing_read in
      let y = subst (λ v. EndsDeep v.marks) w (a.deep _ _ (stands_inside context inner old.heights start n p k i s)) in
      subst (λ z. EndsDeep z.marks) (a_chain context.chain (joined p (grown_so_far parsed false n d nothing_read)) _ e) (later_deep p.marks _ s.shallow y);
}
chain_stops tokens f context inner old new start before later stop.Memory e k i a = tt

-- ---- all turns

-- what goes on from here is a walk from the start, on what the turns made of the piece before them
pub record ReadOn (w : Form) (context : Context) (old new : Reader) (after : ℕ → Piece → Piece) (turns more : List Tree) (s : Scopes) (rest : List Terminal) (q : Reads tables parsed w new.names new.rest.now more s rest) : Type 0 where
  pub trees : List Tree
  pub split : trees ≡ turns ++ more
  pub whole : Reads tables parsed w old.names old.rest.now trees s rest
  pub same : (n : ℕ) (p : Piece) → grown parsed context.chain n (derivation tables parsed whole) p ≡ grown parsed context.chain n (derivation tables parsed q) (after n p)

pub record FailOn (w : Form) (context : Context) (old new : Reader) (after : ℕ → Piece → Piece) (rest : List Terminal) (q : Fails tables parsed w new.names new.rest.now rest) : Type 0 where
  pub whole : Fails tables parsed w old.names old.rest.now rest
  pub same : (n : ℕ) (p : Piece) → grown_so_far parsed context.chain n (front tables parsed whole) p ≡ grown_so_far parsed context.chain n (front tables parsed q) (after n p)

pub record MeetOn (w : Form) (context : Context) (old new : Reader) (after : ℕ → Piece → Piece) (rest : List Terminal) (q : Meets tables parsed w new.names new.rest.now rest) : Type 0 where
  pub whole : Meets tables parsed w old.names old.rest.now rest
  pub same : (n : ℕ) (p : Piece) → grown_so_far parsed context.chain n (front_with tables parsed whole) p ≡ grown_so_far parsed context.chain n (front_with tables parsed q) (after n p)

pub record Turning (tokens : List CTok) (w : Form) (context : Context) (old new : Reader) (before later : List Value) : Type 0 where
  pub trees : List Tree
  pub put : later ≡ before ++ built context.builds tokens trees
  pub shorter : length new.rest.now ≤ length old.rest.now
  pub after : ℕ → Piece → Piece
  pub kept : (n : ℕ) (p : Piece) → Stands context old.heights n p → Stands context new.heights n (after n p)
  pub reads : (more : List Tree) (s : Scopes) (rest : List Terminal) (q : Reads tables parsed w new.names new.rest.now more s rest) → ReadOn w context old new after trees more s rest q
  pub fails : (rest : List Terminal) (q : Fails tables parsed w new.names new.rest.now rest) → FailOn w context old new after rest q
  pub meets : (rest : List Terminal) (q : Meets tables parsed w new.names new.rest.now rest) → MeetOn w context old new after rest q

pub no_turn : {tokens : List CTok} (w : Form) (context : Context) (before : List Value) (r : Reader) → Turning tokens w context r r before before
no_turn {tokens} w context before r = record {
  trees = [];
  put = put_nothing context.builds tokens before;
  shorter = omega arith;
  after = λ n p. p;
  kept = λ n p s. s;
  reads = λ more s rest q. record { trees = more; split = refl; whole = q; same = λ n p. refl };
  fails = λ rest q. record { whole = q; same = λ n p. refl };
  meets = λ rest q. record { whole = q; same = λ n p. refl };
}

-- what a turn makes of a piece
abbrev turned : {f : Form} {s new : Scopes} {ts rest : List Terminal} {xs : List Tree} → Context → Reads tables parsed f s ts xs new rest → ℕ → Piece → Piece
turned context q n p = if context.chain then chained p (grown parsed false n (derivation tables parsed q) nothing_read) else grown parsed false n (derivation tables parsed q) p

pub one_turn : {tokens : List CTok} (f : Form) (context : Context) (old mid new : Reader) (before middle later : List Value) → IsWalkable (many f) → Turning tokens (many f) context old mid before middle → mem (ahead tables parsed mid.names mid.rest.now) (first tables f) ≡ true → ReadTurn tokens f context mid new middle later → Turning tokens (many f) context old new before later
unfolding grown grown_so_far derivation front front_with
one_turn {tokens} f context old mid new before middle later c t b a = record {
  trees = t.trees ++ a.trees;
  put = put_more context.builds tokens before middle later t.trees a.trees t.put a.put;
  shorter = let l = many_moves f c a.reads in let m = t.shorter in omega (arith, l, m);
  after = λ n p. turned context a.reads n (t.after n p);
  kept = λ n p s. a.kept n (t.after n p) (t.kept n p s);
  reads = λ more s rest q. let r = t.reads (a.trees ++ more) s rest (Reads.turn b a.reads q refl) in record { trees = r.trees; split = r.split ∙ sym (append_assoc t.trees a.trees more); whole = r.whole; same = λ n p. r.same n p };
  fails = λ rest q. let r = t.fails rest (Fails.in_later b a.reads q) in record { whole = r.whole; same = λ n p. r.same n p };
  meets = λ rest q. let r = t.meets rest (Meets.in_later b a.reads q) in record { whole = r.whole; same = λ n p. r.same n p };
}

pub turn_stops : {tokens : List CTok} (f : Form) (context : Context) (old mid new : Reader) (before middle later : List Value) (e : Stop) → Turning tokens (many f) context old mid before middle → mem (ahead tables parsed mid.names mid.rest.now) (first tables f) ≡ true → ToldTurn tokens f context mid new middle later (Err e) → Told tokens (many f) context old new before later (Err e)
unfolding grown_so_far front front_with
turn_stops f context old mid new before middle later stop.Fault t b a = let r = t.fails _ (Fails.in_turn b a.fails) in record { fails = r.whole; shallow = λ n p s. subst (λ z. AreShallow z.marks) (sym (r.same n p)) (a.shallow n (t.after n p) (t.kept n p s)) }
turn_stops f context old mid new before middle later stop.Deep t b a = let r = t.meets _ (Meets.in_turn b a.meets) in record { token = a.token; more = a.more; next = a.next; meets = r.whole; deep = λ n p s. subst (λ z. EndsDeep z.marks) (sym (r.same n p)) (a.deep n (t.after n p) (t.kept n p s)) }
turn_stops f context old mid new before middle later stop.Memory t b a = tt

pub no_more_turns : {tokens : List CTok} (f : Form) (context : Context) (old new : Reader) (before later : List Value) → Turning tokens (many f) context old new before later → mem (ahead tables parsed new.names new.rest.now) (first tables f) ≡ false → Read tokens (many f) context old.names old.rest.now old.heights new before later
unfolding grown derivation
no_more_turns {tokens} f context old new before later t b = let r = t.reads [] _ _ (Reads.stop b) in record {
  trees = r.trees;
  put = put_none context.builds tokens before later r.trees t.trees t.put r.split;
  reads = r.whole;
  kept = λ n p s. subst (λ z. Stands context new.heights n z) (sym (r.same n p)) (t.kept n p s);
}

-- likewise where a test decides
pub one_again : {tokens : List CTok} (t : Test) (f : Form) (context : Context) (old mid new : Reader) (before middle later : List Value) → IsWalkable (loop t f) → Turning tokens (loop t f) context old mid before middle → passes t mid.names mid.rest.now ≡ true → ReadTurn tokens f context mid new middle later → Turning tokens (loop t f) context old new before later
unfolding grown grown_so_far derivation front front_with
one_again {tokens} v f context old mid new before middle later c t b a = record {
  trees = t.trees ++ a.trees;
  put = put_more context.builds tokens before middle later t.trees a.trees t.put a.put;
  shorter = let l = loop_moves v f c a.reads in let m = t.shorter in omega (arith, l, m);
  after = λ n p. turned context a.reads n (t.after n p);
  kept = λ n p s. a.kept n (t.after n p) (t.kept n p s);
  reads = λ more s rest q. let r = t.reads (a.trees ++ more) s rest (Reads.again b a.reads q refl) in record { trees = r.trees; split = r.split ∙ sym (append_assoc t.trees a.trees more); whole = r.whole; same = λ n p. r.same n p };
  fails = λ rest q. let r = t.fails rest (Fails.in_further b a.reads q) in record { whole = r.whole; same = λ n p. r.same n p };
  meets = λ rest q. let r = t.meets rest (Meets.in_further b a.reads q) in record { whole = r.whole; same = λ n p. r.same n p };
}

pub again_stops : {tokens : List CTok} (t : Test) (f : Form) (context : Context) (old mid new : Reader) (before middle later : List Value) (e : Stop) → Turning tokens (loop t f) context old mid before middle → passes t mid.names mid.rest.now ≡ true → ToldTurn tokens f context mid new middle later (Err e) → Told tokens (loop t f) context old new before later (Err e)
unfolding grown_so_far front front_with
again_stops v f context old mid new before middle later stop.Fault t b a = let r = t.fails _ (Fails.in_again b a.fails) in record { fails = r.whole; shallow = λ n p s. subst (λ z. AreShallow z.marks) (sym (r.same n p)) (a.shallow n (t.after n p) (t.kept n p s)) }
again_stops v f context old mid new before middle later stop.Deep t b a = let r = t.meets _ (Meets.in_again b a.meets) in record { token = a.token; more = a.more; next = a.next; meets = r.whole; deep = λ n p s. subst (λ z. EndsDeep z.marks) (sym (r.same n p)) (a.deep n (t.after n p) (t.kept n p s)) }
again_stops v f context old mid new before middle later stop.Memory t b a = tt

pub done_again : {tokens : List CTok} (t : Test) (f : Form) (context : Context) (old new : Reader) (before later : List Value) → Turning tokens (loop t f) context old new before later → passes t new.names new.rest.now ≡ false → Read tokens (loop t f) context old.names old.rest.now old.heights new before later
unfolding grown derivation
done_again {tokens} v f context old new before later t b = let r = t.reads [] _ _ (Reads.done b) in record {
  trees = r.trees;
  put = put_none context.builds tokens before later r.trees t.trees t.put r.split;
  reads = r.whole;
  kept = λ n p s. subst (λ z. Stands context new.heights n z) (sym (r.same n p)) (t.kept n p s);
}

pub turn_shortens : {tokens : List CTok} (f : Form) (context : Context) (old new : Reader) (before later : List Value) → IsWalkable (many f) → ReadTurn tokens f context old new before later → length new.rest.now < length old.rest.now
turn_shortens f context old new before later c a = many_moves f c a.reads

pub again_shortens : {tokens : List CTok} (t : Test) (f : Form) (context : Context) (old new : Reader) (before later : List Value) → IsWalkable (loop t f) → ReadTurn tokens f context old new before later → length new.rest.now < length old.rest.now
again_shortens t f context old new before later c a = loop_moves t f c a.reads
