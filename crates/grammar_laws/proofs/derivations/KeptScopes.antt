-- Behind a nonterminal the frames are as before it, and so are the names, but those that it declares.
use Rattle.std.proofs.Common.{◌≡◌, ℕ, Bool, true, false, not, ◌&&◌, ◌||◌, List, [], ◌∷◌, ◌++◌, length, take, refl, sym, ap, subst, ◌∙◌, append_assoc}
use Rattle.std.specs.Prelude.{if◌then◌else◌}
use mathlib.Core.Logic.{inl, inr}
use Rattle.model_grammar.specs.declared.grammar.Rule.{Rule}
use Rattle.model_grammar.specs.declared.grammar.Rule.TheVariants as r
use Rattle.model_grammar.specs.declared.grammar.Act.{Act}
use Rattle.model_grammar.specs.declared.grammar.Act.TheVariants as act
use Rattle.model_grammar.specs.declared.grammar.Terminal.{Terminal}
use Rattle.model_grammar.specs.declared.grammar.Entry.{Entry}
use Rattle.model_grammar.specs.declared.grammar.Frame.{Frame}
use Rattle.model_grammar.specs.declared.grammar.Reading.{Reading}
use Rattle.model_grammar.specs.declared.grammar.Tree.{Tree}
use Rattle.model_grammar.specs.GrammarForm.{Form, word, rule, empty, ◌then◌, ◌or◌, maybe, many, when, loop}
use Rattle.model_grammar.specs.NameScopes.{Scopes, after, close, leave, specified, leave_parameters, parameters}
use Rattle.model_grammar.specs.Derivation.{Derives}
use Rattle.grammar_laws.specs.ParserTable.{table}
use Rattle.grammar_laws.specs.ParserTests.{parsed}
use Rattle.grammar_laws.proofs.kinds.KindSets.{and_left, and_right, or_cases, clash}
use Rattle.grammar_laws.proofs.derivations.ClearBrackets.{over}

-- the act opens a frame, or leaves one
unfoldable pub opens : Act → Bool
opens act.OpenDeclarator = true
opens act.OpenArray = true
opens act.OpenParameters = true
opens act.OpenScope = true
opens act.OpenBlock = true
opens act.OpenSpecifier = true
opens _ = false

unfoldable pub leaves : Act → Bool
leaves act.CloseDeclarator = true
leaves act.CloseArray = true
leaves act.CloseParameters = true
leaves act.CloseBlock = true
leaves _ = false

-- the nonterminal declares names for what comes behind it
unfoldable pub declares : Rule → Bool
declares r.Unit = true
declares r.External = true
declares r.Function = true
declares r.Declaration = true
declares r.Declared = true
declares r.Initdecl = true
declares r.Param = true
declares r.Params = true
declares _ = false

-- the end of the nonterminal leaves a frame
unfoldable pub leaves_last : Rule → Bool
leaves_last r.Struct = true
leaves_last r.Enum = true
leaves_last r.Typeof = true
leaves_last r.If = true
leaves_last r.For = true
leaves_last _ = false

-- whether a frame of the form is open behind it, where one is before it or none
unfoldable pub is_open : Form → Bool → Bool
is_open (word ks a) o = if opens a then true else if leaves a then false else o
is_open (rule n) o = o
is_open empty o = o
is_open (f then g) o = is_open g (is_open f o)
is_open (f or g) o = is_open f o
is_open (maybe f) o = o
is_open (many f) o = o
is_open (when p f g) o = is_open f o
is_open (loop p f) o = o

-- whether names are declared behind it
unfoldable pub is_grown : Form → Bool → Bool
is_grown (word ks a) g = if opens a then true else if leaves a then false else g
is_grown (rule n) g = g || declares n
is_grown empty g = g
is_grown (f then h) g = is_grown h (is_grown f g)
is_grown (f or h) g = is_grown f g || is_grown h g
is_grown (maybe f) g = g || is_grown f g
is_grown (many f) g = g || is_grown f g
is_grown (when p f h) g = is_grown f g || is_grown h g
is_grown (loop p f) g = g || is_grown f g

unfoldable pub same : Bool → Bool → Bool
same true true = true
same false false = true
same _ _ = false

-- frames are opened where none is open and no name is declared, and left where one is open
unfoldable pub nests : Form → Bool → Bool → Bool
nests (word ks a) o g = if opens a then not o && not g else if leaves a then o else true
nests (rule n) o g = true
nests empty o g = true
nests (f then h) o g = nests f o g && nests h (is_open f o) (is_grown f g)
nests (f or h) o g = nests f o g && (nests h o g && same (is_open h o) (is_open f o))
nests (maybe f) o g = nests f o g && same (is_open f o) o
nests (many f) o g = same (is_open f o) o && (nests f o g && (same (is_grown f g) g || (is_grown f g && (nests f o true && is_grown f true))))
nests (when p f h) o g = nests f o g && (nests h o g && same (is_open h o) (is_open f o))
nests (loop p f) o g = same (is_open f o) o && (nests f o g && (same (is_grown f g) g || (is_grown f g && (nests f o true && is_grown f true))))

-- what a table of the grammar must be for this
unfoldable pub nested : Rule → Form → Bool
nested n f = nests f false false && (same (is_open f false) (leaves_last n) && (declares n || (leaves_last n || not (is_grown f false))))

pub every : (n : Rule) → nested n (table n) ≡ true
unfolding nested nests is_open is_grown opens leaves declares leaves_last same table
every r.Unit = refl
every r.External = refl
every r.Function = refl
every r.Declaration = refl
every r.Sassert = refl
every r.Attrs = refl
every r.Attr = refl
every r.Specs = refl
every r.Spec = refl
every r.Storage = refl
every r.Typespec = refl
every r.Qual = refl
every r.Squals = refl
every r.Struct = refl
every r.Members = refl
every r.Member = refl
every r.Enum = refl
every r.Enumr = refl
every r.Declarator = refl
every r.Direct = refl
every r.Suffix = refl
every r.Params = refl
every r.Param = refl
every r.Typename = refl
every r.Abstract = refl
every r.Adirect = refl
every r.Initdecl = refl
every r.Init = refl
every r.Braces = refl
every r.Item = refl
every r.Desig = refl
every r.Block = refl
every r.Label = refl
every r.Statement = refl
every r.Expr = refl
every r.Assign = refl
every r.Cond = refl
every r.Oror = refl
every r.Andand = refl
every r.Bor = refl
every r.Bxor = refl
every r.Band = refl
every r.Equal = refl
every r.Rel = refl
every r.Shift = refl
every r.Sum = refl
every r.Product = refl
every r.Cast = refl
every r.Unary = refl
every r.Postfix = refl
every r.Primary = refl
every r.Literal = refl
every r.Balanced = refl
every r.Declared = refl
every r.ParamSpecs = refl
every r.Body = refl
every r.Typeof = refl
every r.If = refl
every r.For = refl

pub same_bool : (a b : Bool) → same a b ≡ true → a ≡ b
unfolding same
same_bool true true h = refl
same_bool false false h = refl
same_bool true false h = absurd (cc)
same_bool false true h = absurd (cc)

-- what is left of the scopes before a form, where o says that a frame of it is open, and g that names are declared
pub record IsKept (o g : Bool) (s new : Scopes) : Type 0 where
  pub frame : Frame
  pub more : List Entry
  pub frames : new.frames ≡ (if o then frame ∷ s.frames else s.frames)
  pub counted : frame.count ≡ length s.entries
  pub entries : new.entries ≡ s.entries ++ more
  pub ungrown : g ≡ false → more ≡ []

pub taken : (xs ys : List Entry) → take (length xs) (xs ++ ys) ≡ xs
taken [] ys = refl
taken (x ∷ xs) ys = ap (λ z. x ∷ z) (taken xs ys)

pub nil : (xs : List Entry) → xs ++ [] ≡ xs
nil [] = refl
nil (x ∷ xs) = ap (λ z. x ∷ z) (nil xs)

-- an act that opens no frame and leaves none
still_frames : (a : Act) (s : Scopes) (t : Terminal) → opens a ≡ false → leaves a ≡ false → (after a s t).frames ≡ s.frames
unfolding opens leaves
still_frames act.OpenDeclarator s t o l = absurd (cc)
still_frames act.OpenArray s t o l = absurd (cc)
still_frames act.OpenParameters s t o l = absurd (cc)
still_frames act.OpenScope s t o l = absurd (cc)
still_frames act.OpenBlock s t o l = absurd (cc)
still_frames act.OpenSpecifier s t o l = absurd (cc)
still_frames act.CloseDeclarator s t o l = absurd (cc)
still_frames act.CloseArray s t o l = absurd (cc)
still_frames act.CloseParameters s t o l = absurd (cc)
still_frames act.CloseBlock s t o l = absurd (cc)
still_frames _ s t o l = refl

still_entries : (a : Act) (s : Scopes) (t : Terminal) → opens a ≡ false → leaves a ≡ false → (after a s t).entries ≡ s.entries
unfolding opens leaves
still_entries act.OpenDeclarator s t o l = absurd (cc)
still_entries act.OpenArray s t o l = absurd (cc)
still_entries act.OpenParameters s t o l = absurd (cc)
still_entries act.OpenScope s t o l = absurd (cc)
still_entries act.OpenBlock s t o l = absurd (cc)
still_entries act.OpenSpecifier s t o l = absurd (cc)
still_entries act.CloseDeclarator s t o l = absurd (cc)
still_entries act.CloseArray s t o l = absurd (cc)
still_entries act.CloseParameters s t o l = absurd (cc)
still_entries act.CloseBlock s t o l = absurd (cc)
still_entries _ s t o l = refl

-- one that opens a frame
opened_frames : (a : Act) (s : Scopes) (t : Terminal) → opens a ≡ true → (after a s t).frames ≡ record { count = length s.entries; reading = s.reading } ∷ s.frames
unfolding opens
opened_frames act.OpenDeclarator s t o = refl
opened_frames act.OpenArray s t o = refl
opened_frames act.OpenParameters s t o = refl
opened_frames act.OpenScope s t o = refl
opened_frames act.OpenBlock s t o = refl
opened_frames act.OpenSpecifier s t o = refl
opened_frames _ s t o = absurd (cc)

opened_entries : (a : Act) (s : Scopes) (t : Terminal) → opens a ≡ true → (more : List Entry) × ((after a s t).entries ≡ s.entries ++ more)
unfolding opens
opened_entries act.OpenDeclarator s t o = ([], sym (nil s.entries))
opened_entries act.OpenArray s t o = ([], sym (nil s.entries))
opened_entries act.OpenParameters s t o = ([], sym (nil s.entries))
opened_entries act.OpenScope s t o = ([], sym (nil s.entries))
opened_entries act.OpenSpecifier s t o = ([], sym (nil s.entries))
opened_entries act.OpenBlock s t o = (parameters s.reading.held, refl)
opened_entries _ s t o = absurd (cc)

-- one that leaves a frame
left_frames : (f : Reading → Reading) (s : Scopes) (frame : Frame) (frames : List Frame) (fs : List Frame) → fs ≡ frame ∷ frames → (leave f s fs).frames ≡ frames
left_frames f s frame frames fs q = subst (λ z. (leave f s z).frames ≡ frames) (sym q) refl

left_entries : (f : Reading → Reading) (s : Scopes) (frame : Frame) (frames : List Frame) (fs : List Frame) → fs ≡ frame ∷ frames → (leave f s fs).entries ≡ take frame.count s.entries
left_entries f s frame frames fs q = subst (λ z. (leave f s z).entries ≡ take frame.count s.entries) (sym q) refl

listed_frames : (s : Scopes) (frame : Frame) (frames : List Frame) (fs : List Frame) → fs ≡ frame ∷ frames → (leave_parameters s fs).frames ≡ frames
listed_frames s frame frames fs q = subst (λ z. (leave_parameters s z).frames ≡ frames) (sym q) refl

listed_entries : (s : Scopes) (frame : Frame) (frames : List Frame) (fs : List Frame) → fs ≡ frame ∷ frames → (leave_parameters s fs).entries ≡ take frame.count s.entries
listed_entries s frame frames fs q = subst (λ z. (leave_parameters s z).entries ≡ take frame.count s.entries) (sym q) refl

leaving_frames : (a : Act) (s : Scopes) (t : Terminal) (frame : Frame) (frames : List Frame) → leaves a ≡ true → s.frames ≡ frame ∷ frames → (after a s t).frames ≡ frames
unfolding leaves
leaving_frames act.CloseDeclarator s t frame frames l q = left_frames _ s frame frames s.frames q
leaving_frames act.CloseArray s t frame frames l q = left_frames _ s frame frames s.frames q
leaving_frames act.CloseParameters s t frame frames l q = listed_frames s frame frames s.frames q
leaving_frames act.CloseBlock s t frame frames l q = left_frames _ s frame frames s.frames q
leaving_frames _ s t frame frames l q = absurd (cc)

leaving_entries : (a : Act) (s : Scopes) (t : Terminal) (frame : Frame) (frames : List Frame) → leaves a ≡ true → s.frames ≡ frame ∷ frames → (after a s t).entries ≡ take frame.count s.entries
unfolding leaves
leaving_entries act.CloseDeclarator s t frame frames l q = left_entries _ s frame frames s.frames q
leaving_entries act.CloseArray s t frame frames l q = left_entries _ s frame frames s.frames q
leaving_entries act.CloseParameters s t frame frames l q = listed_entries s frame frames s.frames q
leaving_entries act.CloseBlock s t frame frames l q = left_entries _ s frame frames s.frames q
leaving_entries _ s t frame frames l q = absurd (cc)

back_to : (s mid : Scopes) (more : List Entry) (frame : Frame) → frame.count ≡ length s.entries → mid.entries ≡ s.entries ++ more → take frame.count mid.entries ≡ s.entries
back_to s mid more frame c e = rw (c, e) (taken s.entries more)

false_of : (b : Bool) → not b ≡ true → b ≡ false
false_of true h = absurd (cc)
false_of false h = refl

-- a token
at_word : (ks : List ℕ) (a : Act) (o g : Bool) (base s : Scopes) (t : Terminal) (x y : Bool) → opens a ≡ x → leaves a ≡ y → nests (word ks a) o g ≡ true
    → IsKept o g base s → IsKept (is_open (word ks a) o) (is_grown (word ks a) g) base (after a s t)
unfolding nests is_open is_grown
at_word ks a o g base s t true y p q h k =
    let w : (not o && not g) ≡ true = rw p at h in
    let no = false_of o (and_left (not o) (not g) w) in
    let ng = false_of g (and_right (not o) (not g) w) in
    let m = k.ungrown ng in
    let e : s.entries ≡ base.entries = k.entries ∙ (ap (λ z. base.entries ++ z) m ∙ nil base.entries) in
    let f : s.frames ≡ base.frames = subst (λ z. s.frames ≡ (if z then k.frame ∷ base.frames else base.frames)) no k.frames in
    let z = opened_entries a s t p in
    rw p
    (record { frame = record { count = length s.entries; reading = s.reading }; more = z.0; frames = opened_frames a s t p ∙ ap (λ v. record { count = length s.entries; reading = s.reading } ∷ v) f; counted = ap length e; entries = z.1 ∙ ap (λ v. v ++ z.0) e; ungrown = λ v. absurd (cc) })
at_word ks a o g base s t false true p q h k =
    let w : o ≡ true = rw (p, q) at h in
    let f : s.frames ≡ k.frame ∷ base.frames = subst (λ z. s.frames ≡ (if z then k.frame ∷ base.frames else base.frames)) w k.frames in
    rw (p, q)
    (record { frame = k.frame; more = []; frames = leaving_frames a s t k.frame base.frames q f; counted = k.counted; entries = leaving_entries a s t k.frame base.frames q f ∙ (back_to base s k.more k.frame k.counted k.entries ∙ sym (nil base.entries)); ungrown = λ v. refl })
at_word ks a o g base s t false false p q h k =
    rw (p, q) (record { frame = k.frame; more = k.more; frames = still_frames a s t p q ∙ k.frames; counted = k.counted; entries = still_entries a s t p q ∙ k.entries; ungrown = k.ungrown })

grown_to : (o g g' : Bool) (base s : Scopes) → (g' ≡ false → g ≡ false) → IsKept o g base s → IsKept o g' base s
grown_to o g g' base s h k = record { frame = k.frame; more = k.more; frames = k.frames; counted = k.counted; entries = k.entries; ungrown = λ e. k.ungrown (h e) }

pub at_start : (s : Scopes) → IsKept false false s s
at_start s = record { frame = record { count = length s.entries; reading = s.reading }; more = []; frames = refl; counted = refl; entries = sym (nil s.entries); ungrown = λ e. refl }

nothing_grown : (a b : Bool) → (a || b) ≡ false → (a ≡ false) × (b ≡ false)
nothing_grown true b h = absurd (cc)
nothing_grown false b h = (refl, h)

joined : (o g d : Bool) (base s new : Scopes) → IsKept o g base s → IsKept false d s new → IsKept o (g || d) base new
joined o g d base s new k m = record {
  frame = k.frame;
  more = k.more ++ m.more;
  frames = m.frames ∙ k.frames;
  counted = k.counted;
  entries = m.entries ∙ (ap (λ z. z ++ m.more) k.entries ∙ append_assoc base.entries k.more m.more);
  ungrown = λ e. let b = nothing_grown g d e in ap (λ z. z ++ m.more) (k.ungrown b.0) ∙ m.ungrown b.1;
}

none_more : (d l g : Bool) → (d || (l || not g)) ≡ true → l ≡ false → d ≡ false → g ≡ false
none_more true l g h p q = absurd (cc)
none_more false true g h p q = absurd (cc)
none_more false false true h p q = absurd (cc)
none_more false false false h p q = refl

left_kept : (g d : Bool) (f : Reading → Reading) (s mid : Scopes) → IsKept true g s mid → IsKept false d s (leave f mid mid.frames)
left_kept g d f s mid k = record {
  frame = k.frame;
  more = [];
  frames = left_frames f mid k.frame s.frames mid.frames k.frames;
  counted = k.counted;
  entries = left_entries f mid k.frame s.frames mid.frames k.frames ∙ (back_to s mid k.more k.frame k.counted k.entries ∙ sym (nil s.entries));
  ungrown = λ e. refl;
}

plain_kept : (g d : Bool) (s mid new : Scopes) → new.frames ≡ mid.frames → new.entries ≡ mid.entries → (d || not g) ≡ true → IsKept false g s mid → IsKept false d s new
plain_kept g d s mid new f e h k =
    record { frame = k.frame; more = k.more; frames = f ∙ k.frames; counted = k.counted; entries = e ∙ k.entries; ungrown = λ v. k.ungrown (none_more d false g h refl v) }

ended : (n : Rule) (g : Bool) (s mid : Scopes) → (declares n || (leaves_last n || not g)) ≡ true → IsKept (leaves_last n) g s mid → IsKept false (declares n) s (close n mid)
unfolding declares leaves_last
ended r.Struct g s mid h k = left_kept g false _ s mid k
ended r.Enum g s mid h k = left_kept g false _ s mid k
ended r.Typeof g s mid h k = left_kept g false _ s mid k
ended r.If g s mid h k = left_kept g false _ s mid k
ended r.For g s mid h k = left_kept g false _ s mid k
ended r.Declared g s mid h k =
    record { frame = k.frame; more = k.more ++ (record { name = mid.reading.name; is_type = mid.reading.is_typedef } ∷ []); frames = k.frames; counted = k.counted; entries = ap (λ z. z ++ (record { name = mid.reading.name; is_type = mid.reading.is_typedef } ∷ [])) k.entries ∙ append_assoc s.entries k.more _; ungrown = λ v. absurd (cc) }
ended n g s mid h k = plain_kept g _ s mid _ refl refl h k

left_false : (a b : Bool) → (a || b) ≡ false → a ≡ false
left_false true b h = h
left_false false b h = refl

right_false : (a b : Bool) → (a || b) ≡ false → b ≡ false
right_false true b h = absurd (cc)
right_false false b h = h

same_true : (b : Bool) → b ≡ true → same b true ≡ true
unfolding same
same_true true h = refl
same_true false h = absurd (cc)

both_true : (a b : Bool) → a ≡ true → b ≡ true → (a && b) ≡ true
both_true true b h e = e
both_true false b h e = absurd (cc)

or_true : (a b : Bool) → a ≡ true → (a || b) ≡ true
or_true true b h = refl
or_true false b h = absurd (cc)

-- once names are declared, more may be
pub steady : (f : Form) (o : Bool) → same (is_open f o) o ≡ true → (nests f o true && is_grown f true) ≡ true
    → (same (is_open f o) o && (nests f o true && (same (is_grown f true) true || (is_grown f true && (nests f o true && is_grown f true))))) ≡ true
steady f o q v = both_true _ _ q (both_true _ _ (and_left _ (is_grown f true) v) (or_true _ _ (same_true (is_grown f true) (and_right (nests f o true) _ v))))

module _ (body : Rule → Form) (ok : (n : Rule) → nested n (body n) ≡ true) where
  pub kept_over : {f : Form} {s new : Scopes} {ts rest : List Terminal} {xs : List Tree} → Derives (over body) f s ts xs new rest → (o g : Bool) (base : Scopes)
      → nests f o g ≡ true → IsKept o g base s → IsKept (is_open f o) (is_grown f g) base new
  unfolding nests is_open is_grown nested
  kept_over {f = word ks a} (Derives.a_word {s = s} {t = t} e) o g base h k = at_word ks a o g base s t (opens a) (leaves a) refl refl h k
  kept_over {f = rule n} {s = s} (Derives.a_rule {new = mid} d) o g base h k =
      let w = ok n in
      let v = and_right (nests (body n) false false) _ w in
      let i = kept_over d false false s (and_left _ (same (is_open (body n) false) (leaves_last n) && (declares n || (leaves_last n || not (is_grown (body n) false)))) w) (at_start s) in
      let q = same_bool (is_open (body n) false) (leaves_last n) (and_left _ (declares n || (leaves_last n || not (is_grown (body n) false))) v) in
      joined o g (declares n) base s (close n mid) k
      (ended n (is_grown (body n) false) s mid (and_right (same (is_open (body n) false) (leaves_last n)) _ v) (subst (λ z. IsKept z (is_grown (body n) false) s mid) q i))
  kept_over Derives.nothing o g base h k = k
  kept_over {f = f then x} (Derives.both d e _) o g base h k =
      kept_over e (is_open f o) (is_grown f g) base (and_right (nests f o g) _ h) (kept_over d o g base (and_left _ (nests x (is_open f o) (is_grown f g)) h) k)
  kept_over {f = f or x} {new = new} (Derives.left d) o g base h k =
      grown_to (is_open f o) (is_grown f g) (is_grown f g || is_grown x g) base new (left_false (is_grown f g) (is_grown x g))
      (kept_over d o g base (and_left _ (nests x o g && same (is_open x o) (is_open f o)) h) k)
  kept_over {f = f or x} {new = new} (Derives.right d) o g base h k =
      let v = and_right (nests f o g) _ h in
      let i = kept_over d o g base (and_left _ (same (is_open x o) (is_open f o)) v) k in
      grown_to (is_open f o) (is_grown x g) (is_grown f g || is_grown x g) base new (right_false (is_grown f g) (is_grown x g))
      (subst (λ z. IsKept z (is_grown x g) base new) (same_bool _ _ (and_right (nests x o g) _ v)) i)
  kept_over {f = maybe f} {s = s} Derives.skip o g base h k = grown_to o g (g || is_grown f g) base s (left_false g (is_grown f g)) k
  kept_over {f = maybe f} {new = new} (Derives.take d) o g base h k =
      let i = kept_over d o g base (and_left _ (same (is_open f o) o) h) k in
      grown_to o (is_grown f g) (g || is_grown f g) base new (right_false g (is_grown f g)) (subst (λ z. IsKept z (is_grown f g) base new) (same_bool _ _ (and_right (nests f o g) _ h)) i)
  kept_over {f = many f} {s = s} Derives.stop o g base h k = grown_to o g (g || is_grown f g) base s (left_false g (is_grown f g)) k
  kept_over {f = many f} {new = new} (Derives.turn {mid = mid} d e _) o g base h k =
      let i = kept_over d o g base (and_left _ _ (and_right (same (is_open f o) o) _ h)) k in
      let j : IsKept o (is_grown f g) base mid = subst (λ z. IsKept z (is_grown f g) base mid) (same_bool _ _ (and_left _ _ h)) i in
      let w = and_right (nests f o g) _ (and_right (same (is_open f o) o) _ h) in
      elim (or_cases (same (is_grown f g) g) _ w) [
        | inl q ↦ kept_over e o g base h (subst (λ z. IsKept o z base mid) (same_bool (is_grown f g) g q) j)
        | inr v ↦
            grown_to o _ (g || is_grown f g) base new (λ z. absurd (clash _ (and_left (is_grown f g) _ v) (right_false g (is_grown f g) z)))
            (kept_over e o true base (steady f o (and_left _ _ h) (and_right (is_grown f g) _ v)) (grown_to o (is_grown f g) true base mid (λ z. absurd (cc)) j))
      ]
  kept_over {f = when p f x} {new = new} (Derives.chosen _ d) o g base h k =
      grown_to (is_open f o) (is_grown f g) (is_grown f g || is_grown x g) base new (left_false (is_grown f g) (is_grown x g))
      (kept_over d o g base (and_left _ (nests x o g && same (is_open x o) (is_open f o)) h) k)
  kept_over {f = when p f x} {new = new} (Derives.other _ d) o g base h k =
      let v = and_right (nests f o g) _ h in
      let i = kept_over d o g base (and_left _ (same (is_open x o) (is_open f o)) v) k in
      grown_to (is_open f o) (is_grown x g) (is_grown f g || is_grown x g) base new (right_false (is_grown f g) (is_grown x g))
      (subst (λ z. IsKept z (is_grown x g) base new) (same_bool _ _ (and_right (nests x o g) _ v)) i)
  kept_over {f = loop p f} {s = s} (Derives.done _) o g base h k = grown_to o g (g || is_grown f g) base s (left_false g (is_grown f g)) k
  kept_over {f = loop p f} {new = new} (Derives.again {mid = mid} _ d e _) o g base h k =
      let i = kept_over d o g base (and_left _ _ (and_right (same (is_open f o) o) _ h)) k in
      let j : IsKept o (is_grown f g) base mid = subst (λ z. IsKept z (is_grown f g) base mid) (same_bool _ _ (and_left _ _ h)) i in
      let w = and_right (nests f o g) _ (and_right (same (is_open f o) o) _ h) in
      elim (or_cases (same (is_grown f g) g) _ w) [
        | inl q ↦ kept_over e o g base h (subst (λ z. IsKept o z base mid) (same_bool (is_grown f g) g q) j)
        | inr v ↦
            grown_to o _ (g || is_grown f g) base new (λ z. absurd (clash _ (and_left (is_grown f g) _ v) (right_false g (is_grown f g) z)))
            (kept_over e o true base (steady f o (and_left _ _ h) (and_right (is_grown f g) _ v)) (grown_to o (is_grown f g) true base mid (λ z. absurd (cc)) j))
      ]

-- likewise by the parser's table
pub kept : {f : Form} {s new : Scopes} {ts rest : List Terminal} {xs : List Tree} → Derives parsed f s ts xs new rest → (o g : Bool) (base : Scopes)
    → nests f o g ≡ true → IsKept o g base s → IsKept (is_open f o) (is_grown f g) base new
kept d o g base h k = kept_over table every d o g base h k

-- a nonterminal that declares no name leaves the names as they were
pub same_entries : (n : Rule) {s new : Scopes} {ts rest : List Terminal} {xs : List Tree} → declares n ≡ false → Derives parsed (rule n) s ts xs new rest → new.entries ≡ s.entries
unfolding nests is_grown
same_entries n {s = s} h d =
    let k = kept d false false s refl (at_start s) in
    k.entries ∙ (ap (λ z. s.entries ++ z) (k.ungrown h) ∙ nil s.entries)

-- behind a specifier that leaves its frame a type specifier stands before
left_typed : (s : Scopes) (frame : Frame) (frames fs : List Frame) → fs ≡ frame ∷ frames → (leave specified s fs).reading.typed ≡ true
left_typed s frame frames fs q = subst (λ z. (leave specified s z).reading.typed ≡ true) (sym q) refl

pub specifier_typed : (n : Rule) {s mid : Scopes} {ts rest : List Terminal} {xs : List Tree} → leaves_last n ≡ true → Derives parsed (table n) s ts xs mid rest
    → (leave specified mid mid.frames).reading.typed ≡ true
unfolding nested
specifier_typed n {s = s} {mid = mid} l d =
    let w = every n in
    let v = and_right (nests (table n) false false) _ w in
    let i = kept d false false s (and_left _ (same (is_open (table n) false) (leaves_last n) && (declares n || (leaves_last n || not (is_grown (table n) false)))) w) (at_start s) in
    let q = same_bool (is_open (table n) false) (leaves_last n) (and_left _ (declares n || (leaves_last n || not (is_grown (table n) false))) v) in
    let k = subst (λ z. IsKept z (is_grown (table n) false) s mid) (q ∙ l) i in
    left_typed mid k.frame s.frames mid.frames k.frames
