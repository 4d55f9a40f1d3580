-- What a form derives, and what it begins, doesn't depend on the frames below those that it opens.
use Rattle.std.proofs.Common.{◌≡◌, Bool, true, false, not, ◌&&◌, ◌||◌, List, [], ◌∷◌, refl, sym, ap, subst, ◌∙◌}
use Rattle.std.specs.Prelude.{if◌then◌else◌}
use mathlib.Core.Logic.{inl, inr}
use Rattle.model_grammar.specs.declared.grammar.Rule.{Rule}
use Rattle.model_grammar.specs.declared.grammar.Rule.TheVariants as r
use Rattle.model_grammar.specs.declared.grammar.Act.{Act}
use Rattle.model_grammar.specs.declared.grammar.Act.TheVariants as act
use Rattle.model_grammar.specs.declared.grammar.Terminal.{Terminal}
use Rattle.model_grammar.specs.declared.grammar.Frame.{Frame}
use Rattle.model_grammar.specs.declared.grammar.Reading.{Reading}
use Rattle.model_grammar.specs.declared.grammar.Tree.{Tree}
use Rattle.model_grammar.specs.GrammarForm.{Form, word, rule, ◌then◌, ◌or◌, maybe, many, when, loop}
use Rattle.model_grammar.specs.NameScopes.{Scopes, after, close, leave, leave_parameters}
use Rattle.model_grammar.specs.Derivation.{Derives, Begins}
use Rattle.grammar_laws.specs.ParserTable.{table}
use Rattle.grammar_laws.specs.ParserTests.{parsed}
use Rattle.grammar_laws.proofs.kinds.KindSets.{and_left, and_right, or_cases}
use Rattle.grammar_laws.proofs.scans.ScansReadNames.{framed, test_alike}
use Rattle.grammar_laws.proofs.derivations.KeptScopes.{opens, leaves, declares, leaves_last, is_open, is_grown, nests, same, nested, every, same_bool, steady, IsKept, at_start, kept}

-- the frames with others below: below the innermost where o says that it is of the form, else in the place of all
abbrev pub below : Bool → List Frame → List Frame → List Frame
below false gs fs = fs
below true [] fs = fs
below true (g ∷ gs) fs = g ∷ fs

abbrev pub rebased : Bool → List Frame → Scopes → Scopes
rebased o fs s = framed (below o s.frames fs) s

-- a token opens a frame, leaves one, or does neither
opening : (a : Act) (s : Scopes) (t : Terminal) (fs : List Frame) → opens a ≡ true → after a (rebased false fs s) t ≡ rebased true fs (after a s t)
unfolding opens
opening act.OpenDeclarator s t fs h = refl
opening act.OpenArray s t fs h = refl
opening act.OpenParameters s t fs h = refl
opening act.OpenScope s t fs h = refl
opening act.OpenBlock s t fs h = refl
opening act.OpenSpecifier s t fs h = refl
opening _ s t fs h = absurd (cc)

leaving_one : (f : Reading → Reading) (s : Scopes) (frame : Frame) (frames fs gs : List Frame) → gs ≡ frame ∷ frames
    → leave f (framed (below true gs fs) s) (below true gs fs) ≡ framed fs (leave f s gs)
leaving_one f s frame frames fs gs q = subst (λ z. leave f (framed (below true z fs) s) (below true z fs) ≡ framed fs (leave f s z)) (sym q) refl

leaving_list : (s : Scopes) (frame : Frame) (frames fs gs : List Frame) → gs ≡ frame ∷ frames → leave_parameters (framed (below true gs fs) s) (below true gs fs) ≡ framed fs (leave_parameters s gs)
leaving_list s frame frames fs gs q = subst (λ z. leave_parameters (framed (below true z fs) s) (below true z fs) ≡ framed fs (leave_parameters s z)) (sym q) refl

leaving : (a : Act) (s : Scopes) (t : Terminal) (frame : Frame) (frames fs : List Frame) → leaves a ≡ true → s.frames ≡ frame ∷ frames → after a (rebased true fs s) t ≡ rebased false fs (after a s t)
unfolding leaves
leaving act.CloseDeclarator s t frame frames fs h q = leaving_one _ s frame frames fs s.frames q
leaving act.CloseArray s t frame frames fs h q = leaving_one _ s frame frames fs s.frames q
leaving act.CloseParameters s t frame frames fs h q = leaving_list s frame frames fs s.frames q
leaving act.CloseBlock s t frame frames fs h q = leaving_one _ s frame frames fs s.frames q
leaving _ s t frame frames fs h q = absurd (cc)

staying : (a : Act) (o : Bool) (s : Scopes) (t : Terminal) (fs : List Frame) → opens a ≡ false → leaves a ≡ false → after a (rebased o fs s) t ≡ rebased o fs (after a s t)
unfolding opens leaves
staying act.OpenDeclarator o s t fs h l = absurd (cc)
staying act.OpenArray o s t fs h l = absurd (cc)
staying act.OpenParameters o s t fs h l = absurd (cc)
staying act.OpenScope o s t fs h l = absurd (cc)
staying act.OpenBlock o s t fs h l = absurd (cc)
staying act.OpenSpecifier o s t fs h l = absurd (cc)
staying act.CloseDeclarator o s t fs h l = absurd (cc)
staying act.CloseArray o s t fs h l = absurd (cc)
staying act.CloseParameters o s t fs h l = absurd (cc)
staying act.CloseBlock o s t fs h l = absurd (cc)
staying _ o s t fs h l = refl

none_open : (o g : Bool) → (not o && not g) ≡ true → o ≡ false
none_open true g h = absurd (cc)
none_open false g h = refl

one_frame : (o : Bool) (frame : Frame) (base gs : List Frame) → o ≡ true → gs ≡ (if o then frame ∷ base else base) → gs ≡ frame ∷ base
one_frame true frame base gs h q = q
one_frame false frame base gs h q = absurd (cc)

by_word : (a : Act) (ks : List _) (o g x y : Bool) (base s : Scopes) (t : Terminal) (fs : List Frame) → opens a ≡ x → leaves a ≡ y
    → nests (word ks a) o g ≡ true → IsKept o g base s → after a (rebased o fs s) t ≡ rebased (is_open (word ks a) o) fs (after a s t)
unfolding nests is_open
by_word a ks o g true y base s t fs p q h k =
    let w : (not o && not g) ≡ true = rw p at h in
    let e = none_open o g w in
    rw (p, e) (opening a s t fs p)
by_word a ks o g false true base s t fs p q h k =
    let w : o ≡ true = rw (p, q) at h in
    rw (p, q, w) (leaving a s t k.frame base.frames fs q (one_frame o k.frame base.frames s.frames w k.frames))
by_word a ks o g false false base s t fs p q h k = rw (p, q) (staying a o s t fs p q)

-- and so does the end of a nonterminal
ended : (n : Rule) (g : Bool) (s mid : Scopes) (fs : List Frame) → IsKept (leaves_last n) g s mid → close n (rebased (leaves_last n) fs mid) ≡ framed fs (close n mid)
unfolding leaves_last
ended r.Struct g s mid fs k = leaving_one _ mid k.frame s.frames fs mid.frames k.frames
ended r.Enum g s mid fs k = leaving_one _ mid k.frame s.frames fs mid.frames k.frames
ended r.Typeof g s mid fs k = leaving_one _ mid k.frame s.frames fs mid.frames k.frames
ended r.If g s mid fs k = leaving_one _ mid k.frame s.frames fs mid.frames k.frames
ended r.For g s mid fs k = leaving_one _ mid k.frame s.frames fs mid.frames k.frames
ended _ g s mid fs k = refl

-- a nonterminal leaves the frames as they were
pub same_frames : {n : Rule} {s new : Scopes} {ts rest : List Terminal} {xs : List Tree} → Derives parsed (rule n) s ts xs new rest → new.frames ≡ s.frames
unfolding nests is_open
same_frames {s = s} d = (kept d false false s refl (at_start s)).frames

-- the parts of the condition on the frames of a form
table_nests : (n : Rule) → nests (table n) false false ≡ true
unfolding nested
table_nests n = and_left _ (same (is_open (table n) false) (leaves_last n) && (declares n || (leaves_last n || not (is_grown (table n) false)))) (every n)

table_open : (n : Rule) → is_open (table n) false ≡ leaves_last n
unfolding nested
table_open n = same_bool (is_open (table n) false) (leaves_last n) (and_left _ (declares n || (leaves_last n || not (is_grown (table n) false))) (and_right (nests (table n) false false) _ (every n)))

-- the body of a nonterminal, in the place of the frames before it
inside : (n : Rule) (s mid : Scopes) (o : Bool) (fs : List Frame) {ts rest : List Terminal} {xs : List Tree} → Derives parsed (table n) s ts xs mid rest
    → Derives parsed (table n) (rebased o fs s) ts xs (rebased (is_open (table n) false) (below o s.frames fs) mid) rest
    → Derives parsed (rule n) (rebased o fs s) ts (parsed.node n xs ∷ []) (rebased o fs (close n mid)) rest
inside n s mid o fs {ts = ts} {rest = rest} {xs = xs} d e =
    let gs = below o s.frames fs in
    let k = subst (λ z. IsKept z (is_grown (table n) false) s mid) (table_open n) (kept d false false s (table_nests n) (at_start s)) in
    let q : close n (rebased (is_open (table n) false) gs mid) ≡ framed gs (close n mid) = ap (λ z. close n (rebased z gs mid)) (table_open n) ∙ ended n (is_grown (table n) false) s mid gs k in
    let p : framed gs (close n mid) ≡ rebased o fs (close n mid) = ap (λ z. framed (below o z fs) (close n mid)) (sym (same_frames (Derives.a_rule d))) in
    subst (λ z. Derives parsed (rule n) (rebased o fs s) ts (parsed.node n xs ∷ []) z rest) (q ∙ p) (Derives.a_rule e)

opened_as : {f : Form} {x y : Bool} (new : Scopes) (fs : List Frame) {s : Scopes} {ts rest : List Terminal} {xs : List Tree} → x ≡ y
    → Derives parsed f s ts xs (rebased x fs new) rest → Derives parsed f s ts xs (rebased y fs new) rest
opened_as {f = f} new fs {s = s} {ts = ts} {rest = rest} {xs = xs} q d = subst (λ z. Derives parsed f s ts xs (rebased z fs new) rest) q d

kept_as : {x y g h : Bool} {base s : Scopes} → x ≡ y → g ≡ h → IsKept x g base s → IsKept y h base s
kept_as {y = y} {g = g} {base = base} {s = s} p q k = subst (λ z. IsKept y z base s) q (subst (λ z. IsKept z g base s) p k)

kept_true : {x y g : Bool} {base s : Scopes} → x ≡ y → IsKept x g base s → IsKept y true base s
kept_true {g = g} {base = base} {s = s} p k =
    subst (λ z. IsKept z true base s) p (record { frame = k.frame; more = k.more; frames = k.frames; counted = k.counted; entries = k.entries; ungrown = λ e. absurd (cc) })

pub moved : {f : Form} {s new : Scopes} {ts rest : List Terminal} {xs : List Tree} → Derives parsed f s ts xs new rest
    → (o g : Bool) (base : Scopes) (fs : List Frame) → nests f o g ≡ true → IsKept o g base s
    → Derives parsed f (rebased o fs s) ts xs (rebased (is_open f o) fs new) rest
unfolding nests is_open is_grown
moved {f = word ks a} (Derives.a_word {s = s} {t = t} {ts = ts} e) o g base fs h k =
    subst (λ z. Derives parsed (word ks a) (rebased o fs s) (t ∷ ts) (parsed.leaf t ∷ []) z ts) (by_word a ks o g (opens a) (leaves a) base s t fs refl refl h k) (Derives.a_word e)
moved {f = rule n} {s = s} (Derives.a_rule {new = mid} d) o g base fs h k = inside n s mid o fs d (moved d false false s (below o s.frames fs) (table_nests n) (at_start s))
moved Derives.nothing o g base fs h k = Derives.nothing
moved {f = f then x} (Derives.both d e q) o g base fs h k =
    let v = and_left _ (nests x (is_open f o) (is_grown f g)) h in
    Derives.both (moved d o g base fs v k) (moved e (is_open f o) (is_grown f g) base fs (and_right (nests f o g) _ h) (kept d o g base v k)) q
moved {f = f or x} (Derives.left d) o g base fs h k = Derives.left (moved d o g base fs (and_left _ (nests x o g && same (is_open x o) (is_open f o)) h) k)
moved {f = f or x} {new = new} (Derives.right d) o g base fs h k =
    let v = and_right (nests f o g) _ h in
    Derives.right (opened_as new fs (same_bool _ _ (and_right (nests x o g) _ v)) (moved d o g base fs (and_left _ (same (is_open x o) (is_open f o)) v) k))
moved Derives.skip o g base fs h k = Derives.skip
moved {f = maybe f} {new = new} (Derives.take d) o g base fs h k =
    Derives.take (opened_as new fs (same_bool _ _ (and_right (nests f o g) _ h)) (moved d o g base fs (and_left _ (same (is_open f o) o) h) k))
moved Derives.stop o g base fs h k = Derives.stop
moved {f = many f} (Derives.turn {mid = mid} d e q) o g base fs h k =
    let p = same_bool _ _ (and_left (same (is_open f o) o) _ h) in
    let v = and_left _ _ (and_right (same (is_open f o) o) _ h) in
    let d' = opened_as mid fs p (moved d o g base fs v k) in
    elim (or_cases (same (is_grown f g) g) _ (and_right (nests f o g) _ (and_right (same (is_open f o) o) _ h))) [
      | inl c ↦ Derives.turn d' (moved e o g base fs h (kept_as p (same_bool (is_grown f g) g c) (kept d o g base v k))) q
      | inr c ↦ Derives.turn d' (moved e o true base fs (steady f o (and_left _ _ h) (and_right (is_grown f g) _ c)) (kept_true p (kept d o g base v k))) q
    ]
moved {f = when p f x} (Derives.chosen c d) o g base fs h k = Derives.chosen (test_alike p _ _ _ ∙ c) (moved d o g base fs (and_left _ (nests x o g && same (is_open x o) (is_open f o)) h) k)
moved {f = when p f x} {new = new} (Derives.other c d) o g base fs h k =
    let v = and_right (nests f o g) _ h in
    Derives.other (test_alike p _ _ _ ∙ c) (opened_as new fs (same_bool _ _ (and_right (nests x o g) _ v)) (moved d o g base fs (and_left _ (same (is_open x o) (is_open f o)) v) k))
moved {f = loop p f} (Derives.done c) o g base fs h k = Derives.done (test_alike p _ _ _ ∙ c)
moved {f = loop p f} (Derives.again {mid = mid} c d e q) o g base fs h k =
    let w = same_bool _ _ (and_left (same (is_open f o) o) _ h) in
    let v = and_left _ _ (and_right (same (is_open f o) o) _ h) in
    let d' = opened_as mid fs w (moved d o g base fs v k) in
    elim (or_cases (same (is_grown f g) g) _ (and_right (nests f o g) _ (and_right (same (is_open f o) o) _ h))) [
      | inl b ↦ Derives.again (test_alike p _ _ _ ∙ c) d' (moved e o g base fs h (kept_as w (same_bool (is_grown f g) g b) (kept d o g base v k))) q
      | inr b ↦ Derives.again (test_alike p _ _ _ ∙ c) d' (moved e o true base fs (steady f o (and_left _ _ h) (and_right (is_grown f g) _ b)) (kept_true w (kept d o g base v k))) q
    ]

-- likewise what is begun
pub moved_begun : {f : Form} {s : Scopes} {ts rest : List Terminal} → Begins parsed f s ts rest → (o g : Bool) (base : Scopes) (fs : List Frame)
    → nests f o g ≡ true → IsKept o g base s → Begins parsed f (rebased o fs s) ts rest
unfolding nests is_open is_grown
moved_begun Begins.yet o g base fs h k = Begins.yet
moved_begun (Begins.in_word e) o g base fs h k = Begins.in_word e
moved_begun {f = rule n} {s = s} (Begins.in_rule d) o g base fs h k = Begins.in_rule (moved_begun d false false s (below o s.frames fs) (table_nests n) (at_start s))
moved_begun {f = f then x} (Begins.in_first d) o g base fs h k = Begins.in_first (moved_begun d o g base fs (and_left _ (nests x (is_open f o) (is_grown f g)) h) k)
moved_begun {f = f then x} (Begins.in_then d e) o g base fs h k =
    let v = and_left _ (nests x (is_open f o) (is_grown f g)) h in
    Begins.in_then (moved d o g base fs v k) (moved_begun e (is_open f o) (is_grown f g) base fs (and_right (nests f o g) _ h) (kept d o g base v k))
moved_begun {f = f or x} (Begins.in_left d) o g base fs h k = Begins.in_left (moved_begun d o g base fs (and_left _ (nests x o g && same (is_open x o) (is_open f o)) h) k)
moved_begun {f = f or x} (Begins.in_right d) o g base fs h k = Begins.in_right (moved_begun d o g base fs (and_left _ (same (is_open x o) (is_open f o)) (and_right (nests f o g) _ h)) k)
moved_begun {f = maybe f} (Begins.in_maybe d) o g base fs h k = Begins.in_maybe (moved_begun d o g base fs (and_left _ (same (is_open f o) o) h) k)
moved_begun {f = many f} (Begins.in_turn d) o g base fs h k = Begins.in_turn (moved_begun d o g base fs (and_left _ _ (and_right (same (is_open f o) o) _ h)) k)
moved_begun {f = many f} (Begins.in_later {mid = mid} d e) o g base fs h k =
    let p = same_bool _ _ (and_left (same (is_open f o) o) _ h) in
    let v = and_left _ _ (and_right (same (is_open f o) o) _ h) in
    let d' = opened_as mid fs p (moved d o g base fs v k) in
    elim (or_cases (same (is_grown f g) g) _ (and_right (nests f o g) _ (and_right (same (is_open f o) o) _ h))) [
      | inl c ↦ Begins.in_later d' (moved_begun e o g base fs h (kept_as p (same_bool (is_grown f g) g c) (kept d o g base v k)))
      | inr c ↦ Begins.in_later d' (moved_begun e o true base fs (steady f o (and_left _ _ h) (and_right (is_grown f g) _ c)) (kept_true p (kept d o g base v k)))
    ]
moved_begun {f = when p f x} (Begins.in_chosen c d) o g base fs h k =
    Begins.in_chosen (test_alike p _ _ _ ∙ c) (moved_begun d o g base fs (and_left _ (nests x o g && same (is_open x o) (is_open f o)) h) k)
moved_begun {f = when p f x} (Begins.in_other c d) o g base fs h k =
    Begins.in_other (test_alike p _ _ _ ∙ c) (moved_begun d o g base fs (and_left _ (same (is_open x o) (is_open f o)) (and_right (nests f o g) _ h)) k)
moved_begun {f = loop p f} (Begins.in_again c d) o g base fs h k = Begins.in_again (test_alike p _ _ _ ∙ c) (moved_begun d o g base fs (and_left _ _ (and_right (same (is_open f o) o) _ h)) k)
moved_begun {f = loop p f} (Begins.in_further {mid = mid} c d e) o g base fs h k =
    let w = same_bool _ _ (and_left (same (is_open f o) o) _ h) in
    let v = and_left _ _ (and_right (same (is_open f o) o) _ h) in
    let d' = opened_as mid fs w (moved d o g base fs v k) in
    elim (or_cases (same (is_grown f g) g) _ (and_right (nests f o g) _ (and_right (same (is_open f o) o) _ h))) [
      | inl b ↦ Begins.in_further (test_alike p _ _ _ ∙ c) d' (moved_begun e o g base fs h (kept_as w (same_bool (is_grown f g) g b) (kept d o g base v k)))
      | inr b ↦ Begins.in_further (test_alike p _ _ _ ∙ c) d' (moved_begun e o true base fs (steady f o (and_left _ _ h) (and_right (is_grown f g) _ b)) (kept_true w (kept d o g base v k)))
    ]

-- a form that leaves no frame open, and one of its fronts, in the place of any other frames
pub reframed : {f : Form} {s new : Scopes} {ts rest : List Terminal} {xs : List Tree} → Derives parsed f s ts xs new rest → nests f false false ≡ true
    → is_open f false ≡ false → (fs : List Frame) → Derives parsed f (framed fs s) ts xs (framed fs new) rest
reframed {s = s} {new = new} d h q fs = opened_as new fs q (moved d false false s fs h (at_start s))

pub reframed_begun : {f : Form} {s : Scopes} {ts rest : List Terminal} → Begins parsed f s ts rest → nests f false false ≡ true → (fs : List Frame) → Begins parsed f (framed fs s) ts rest
reframed_begun {s = s} d h fs = moved_begun d false false s fs h (at_start s)
