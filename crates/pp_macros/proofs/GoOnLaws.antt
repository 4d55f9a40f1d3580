-- A call that goes on, taken apart and put together again.
use Rattle.std.proofs.Common.{◌≡◌, ℕ, ◌+◌, ◌<◌, ◌≤◌, true, max, List, [], ◌∷◌, ◌++◌, length, map, drop, Option, Some, None, Ok, Err, refl, ap, subst, sym, ◌∙◌, arith, length-append, append_assoc, slice_get, inl, inr}
use Rattle.cake_base.specs.declared.places.Place.{Place}
use Rattle.model_tokens.specs.PpTokens.{PpToken}
use Rattle.model_macros.specs.Macros.{Macro, Macros}
use Rattle.std.specs.Option.{is_some, MatchOption}
use Rattle.model_macros.specs.HideSets.{common, with_rank}
use Rattle.model_macros.specs.MacroArguments.{Painted, Run, inside, placed, arguments}
use Rattle.model_macros.specs.Substitution.{Argument, Use, unreplaced, uses, written, with_replaced, variable_rank, substituted}
use Rattle.cake_base.specs.declared.rules.Fault.{Fault}
use Rattle.model_macros.specs.Expansion.{Answer, Stop, broken, passed, MADE, Expands, Fills}
use Rattle.model_macros.specs.apparatus.ExpansionRules.{object_call, Expands-object, Expands-call, Expands-open, Expands-count}
use Rattle.model_macros.specs.apparatus.ExpansionTotal.{call-length, arguments-weight}
use Rattle.pp_definitions.specs.declared.errors.MacroError.{MacroError}
use Rattle.pp_definitions.specs.declared.errors.MacroError.TheVariants as macro_error
use Rattle.pp_macros.specs.Machine.{Waiting, Called, CallParts, Shown, Refused, Begins, Expanded, from_wanted, Gives, GoesOn, Finishes, Stops, waiting_weight, all_weight, remaining}
use Rattle.model_macros.specs.Pasting.{fresh}
use Rattle.model_macros.specs.ExpansionFunction.{expand-only}
use Rattle.pp_definitions.proofs.HeadingLaws.{drop-get}
use Rattle.pp_macros.proofs.MachineLaws.{all_done, resumed, lighter, with_front-nil, Ends-stopped, unreplaced-weight, asking, asks, goes_body, goes_stopped, wanted-first, wanted-unreplaced, lighter_by}

pub asking-lighter : (f : Waiting) (fs : List Waiting) (u : Use) (us : List Use) → from_wanted f.args (variable_rank f.call.def) f.uses ≡ u ∷ us →
    length (written f.args u.rank) + all_weight (asking f u us ∷ fs) < waiting_weight f + all_weight fs
asking-lighter f fs u us h =
    let w = wanted-unreplaced f.args (variable_rank f.call.def) u (wanted-first f.args (variable_rank f.call.def) f.uses u us h) in
    let l = lighter_by f.args u.rank [] w in
    omega (arith, l)

-- the state in which a call waits for its next argument
pub record Asked (f : Waiting) (fs calls : List Waiting) (pending out : Run) : Type 0 where
  pub asked : Use
  pub rest : List Use
  pub next : from_wanted f.args (variable_rank f.call.def) f.uses ≡ asked ∷ rest
  pub waits : calls ≡ asking f asked rest ∷ fs
  pub argument : pending ≡ written f.args asked.rank
  pub empty : out ≡ []

pub Asked-gives : (table : Macros) (f : Waiting) (fs calls : List Waiting) (pending out : Run) (made : ℕ) → Asked f fs calls pending out → (a : Answer) → Gives table calls pending out made a → GoesOn table f fs made a
Asked-gives table f fs calls pending out made x a g =
    let one = subst (λ (z : List Waiting). Gives table z pending out made a) x.waits g in
    let two = subst (λ (z : Run). Gives table (asking f x.asked x.rest ∷ fs) z out made a) x.argument one in
    let three = subst (λ (z : Run). Gives table (asking f x.asked x.rest ∷ fs) (written f.args x.asked.rank) z made a) x.empty two in
    asks table f fs x.asked x.rest made a x.next three

pub Asked-shrinks : (f : Waiting) (fs calls : List Waiting) (pending out : Run) (made : ℕ) → Asked f fs calls pending out → remaining made (length pending + all_weight calls) < remaining made (waiting_weight f + all_weight fs)
Asked-shrinks f fs calls pending out made x =
    let l = asking-lighter f fs x.asked x.rest x.next in
    let p : length pending ≡ length (written f.args x.asked.rank) = ap length x.argument in
    let q : all_weight calls ≡ all_weight (asking f x.asked x.rest ∷ fs) = ap all_weight x.waits in
    omega (arith, l, p, q)

-- the parts of a call are the call
abbrev pub waiting : PpToken → List ℕ → Macro → Run → List Use → List Argument → ℕ → Run → Waiting
waiting name hides def rest uses args rank out = record { call = record { name = name; hides = hides; def = def; rest = rest }; uses = uses; args = args; rank = rank; out = out }

pub Asked-parts : (f : Waiting) (fs calls : List Waiting) (pending out : Run) (name : PpToken) (hides : List ℕ) (def : Macro) (after : Run) (uses us : List Use) (args args' args'' seen : List Argument) (rank : ℕ) (before : Run) (last : ℕ) (u u' : Use) (empty run : Run) →
    waiting name hides def after uses args rank before ≡ f → last ≡ variable_rank def → args' ≡ args → from_wanted args' last uses ≡ u' ∷ us → u ≡ u' →
    seen ≡ with_replaced args u.rank empty → empty ≡ [] → calls ≡ waiting name hides def after us seen u.rank before ∷ fs → pending ≡ run → run ≡ written args'' u.rank → args'' ≡ args → out ≡ [] →
    Asked f fs calls pending out
Asked-parts f fs calls pending out name hides def after uses us args args' args'' seen rank before last u u' empty run view lasts same next is set none pushed put runs same' emptied =
    let g : Waiting = waiting name hides def after uses args rank before in
    let n : from_wanted args (variable_rank def) uses ≡ u ∷ us =
    ap (λ (z : List Argument). from_wanted z (variable_rank def) uses) (sym same) ∙ ap (λ l. from_wanted args' l uses) (sym lasts) ∙ next ∙ ap (λ (z : Use). z ∷ us) (sym is) in
    let s : seen ≡ with_replaced args u.rank [] = set ∙ ap (with_replaced args u.rank) none in
    let x : Asked g fs calls pending out = record {
      asked = u;
      rest = us;
      next = n;
      waits = pushed ∙ ap (λ (z : List Argument). waiting name hides def after us z u.rank before ∷ fs) s;
      argument = put ∙ runs ∙ ap (λ (z : List Argument). written z u.rank) same';
      empty = emptied;
    } in
    subst (λ (z : Waiting). Asked z fs calls pending out) view x

-- the state in which the text of a call is there
pub record Done (table : Macros) (f : Waiting) (made more : ℕ) (pending out : Run) : Type 0 where
  pub body : Run
  pub none : from_wanted f.args (variable_rank f.call.def) f.uses ≡ []
  pub text : substituted table.files f.call.name f.call.hides f.call.def f.args ≡ Some body
  pub count : more ≡ made + max 1 (length body)
  pub fits : more ≤ MADE
  pub put : pending ≡ body ++ f.call.rest
  pub before : out ≡ f.out

pub Done-gives : (table : Macros) (f : Waiting) (fs : List Waiting) (made more : ℕ) (pending out : Run) → Done table f made more pending out → (a : Answer) → Gives table fs pending out more a → GoesOn table f fs made a
Done-gives table f fs made more pending out x a g =
    let one = subst (λ (z : Run). Gives table fs z out more a) x.put g in
    let two = subst (λ (z : Run). Gives table fs (x.body ++ f.call.rest) z more a) x.before one in
    goes_body table f fs made x.body more a x.none x.text x.count x.fits two

pub Done-shrinks : (table : Macros) (f : Waiting) (fs : List Waiting) (made more : ℕ) (pending out : Run) → Done table f made more pending out → remaining more (length pending + all_weight fs) < remaining made (waiting_weight f + all_weight fs)
Done-shrinks table f fs made more pending out x =
    let p : length pending ≡ length (x.body ++ f.call.rest) = ap length x.put in
    let c = x.count in
    let m = x.fits in
    omega (arith, p, length-append x.body f.call.rest, c, m)

pub Done-parts : (table : Macros) (f : Waiting) (made more : ℕ) (pending out : Run) (name : PpToken) (hides : List ℕ) (def : Macro) (after : Run) (uses : List Use) (args args' args'' : List Argument) (rank : ℕ) (before : Run) (last : ℕ) (body : Run) →
    waiting name hides def after uses args rank before ≡ f → last ≡ variable_rank def → args' ≡ args → from_wanted args' last uses ≡ [] → args'' ≡ args →
    Finishes table (record { name = name; hides = hides; def = def; rest = after }) args'' made (Ok body) more → pending ≡ body ++ after → out ≡ before → Done table f made more pending out
Done-parts table f made more pending out name hides def after uses args args' args'' rank before last body view lasts same next same' fin put emptied =
    let g : Waiting = waiting name hides def after uses args rank before in
    let x : Done table g made more pending out = record {
      body = body;
      none = ap (λ (z : List Argument). from_wanted z (variable_rank def) uses) (sym same) ∙ ap (λ l. from_wanted args' l uses) (sym lasts) ∙ next;
      text = ap (λ (z : List Argument). substituted table.files name hides def z) (sym same') ∙ fin.0;
      count = fin.1;
      fits = fin.2;
      put = put;
      before = emptied;
    } in
    subst (λ (z : Waiting). Done table z made more pending out) view x

-- a call that ends all
pub Stops-map : (P Q : Answer → Type 0) (e : MacroError) (made : ℕ) → ((x : Stop × ℕ) → P (Err x) → Q (Err x)) → Stops P e made → Stops Q e made
Stops-map P Q (macro_error.Fault g) made f h = f (_, made) h
Stops-map P Q (macro_error.Limit l) made f h = f (_, made) h
Stops-map P Q macro_error.NoMemory made f h = tt

pub Stopped-parts : (table : Macros) (f : Waiting) (fs : List Waiting) (made more : ℕ) (name : PpToken) (hides : List ℕ) (def : Macro) (after : Run) (uses : List Use) (args args' args'' : List Argument) (rank : ℕ) (before : Run) (last : ℕ) (e : MacroError) →
    waiting name hides def after uses args rank before ≡ f → last ≡ variable_rank def → args' ≡ args → from_wanted args' last uses ≡ [] → args'' ≡ args →
    Finishes table (record { name = name; hides = hides; def = def; rest = after }) args'' made (Err e) more → Stops (GoesOn table f fs made) e more
Stopped-parts table f fs made more name hides def after uses args args' args'' rank before last e view lasts same next same' fin =
    let g : Waiting = waiting name hides def after uses args rank before in
    let n : from_wanted args (variable_rank def) uses ≡ [] = ap (λ (z : List Argument). from_wanted z (variable_rank def) uses) (sym same) ∙ ap (λ l. from_wanted args' l uses) (sym lasts) ∙ next in
    let s : Stops (Fills table g.call [] args made) e more = subst (λ (z : List Argument). Stops (Fills table g.call [] z made) e more) same' fin in
    subst (λ (z : Waiting). Stops (GoesOn table z fs made) e more) view
    (Stops-map (Fills table g.call [] args made) (GoesOn table g fs made) e more (λ x h. goes_stopped table g fs made x n h) s)

-- ---- a call begins

pub some-of : {A : Type 0} (o : Option A) → is_some o ≡ true → (x : A) × (o ≡ Some x)
some-of None h = cc
some-of (Some x) h = (x, refl)

pub drop-popped : (o : Option Painted) (old new : Run) → MatchOption o ((old ≡ []) × (new ≡ [])) (λ p. old ≡ p ∷ new) → new ≡ drop 1 old
drop-popped None old new h = h.1 ∙ ap (drop 1) (sym h.0)
drop-popped (Some p) old new h = ap (drop 1) (sym h)

pub CallParts-are : (p : Painted) (m : Macro) (ps front rest : Run) (popped : Option Painted) (run : Run) (close : Painted) (o : Option (List Run)) (runs : List Run) (found : Option (Run × Painted)) (place : Place) →
    MatchOption popped ((ps ≡ []) × (front ≡ [])) (λ q. ps ≡ q ∷ front) → found ≡ Some (run, close) → place ≡ p.tok.place →
    MatchOption found (placed place (inside 0 front) ≡ None) (λ r. placed place (inside 0 front) ≡ Some (record { tokens = r.0; close = r.1; rest = rest })) →
    o ≡ arguments m run → o ≡ Some runs → CallParts p m ps runs close rest
CallParts-are p m ps front rest popped run close o runs found place pop is here at split counts =
    let d = drop-popped popped ps front pop in
    let a = subst (λ (z : Option (Run × Painted)). MatchOption z (placed place (inside 0 front) ≡ None) (λ r. placed place (inside 0 front) ≡ Some (record { tokens = r.0; close = r.1; rest = rest }))) is at in
    record { tokens = run; found = ap (λ z. placed z (inside 0 (drop 1 ps))) (sym here) ∙ ap (λ (z : Run). placed place (inside 0 z)) (sym d) ∙ a; counted = sym split ∙ counts }

pub Called-is : (p : Painted) (n : ℕ) (m : Macro) (ps out : Run) (runs : List Run) (close : Painted) (rest : Run) (name : PpToken) (hides : List ℕ) (us : List Use) (args : List Argument) (w : Waiting) → CallParts p m ps runs close rest →
    w ≡ waiting name hides m rest us args 0 out → name ≡ p.tok → hides ≡ with_rank (common p.hides close.hides) n → us ≡ uses m → args ≡ map unreplaced runs → Called p n m ps out w
Called-is p n m ps out runs close rest name hides us args w c is named hid asked made =
    record {
      i = record { tokens = c.tokens; close = close; rest = rest };
      runs = runs;
      found = c.found;
      counted = c.counted;
      is = is ∙ ap (λ (z : PpToken). waiting z hides m rest us args 0 out) named
          ∙ ap (λ (z : List ℕ). waiting p.tok z m rest us args 0 out) hid
          ∙ ap (λ (z : List Use). waiting p.tok (with_rank (common p.hides close.hides) n) m rest z args 0 out) asked
          ∙ ap (λ (z : List Argument). waiting p.tok (with_rank (common p.hides close.hides) n) m rest (uses m) z 0 out) made;
    }

-- ---- a token that is replaced

pub begins_object : (table : Macros) (p : Painted) (ps out : Run) (n : ℕ) (m : Macro) (fs : List Waiting) (made : ℕ) (w : Waiting) (a : Answer) → Shown table p ps n m → m.params ≡ None →
    w ≡ record { call = object_call p n m ps; uses = []; args = []; rank = 0; out = out } → GoesOn table w fs made a → Gives table fs (p ∷ ps) out made a
begins_object table p ps out n m fs made w a s kind is g =
    let h = subst (λ (z : Waiting). GoesOn table z fs made a) is g in
    record { inner = h.inner; expands = Expands-object table p ps made n m h.inner s.known s.free kind h.fills; ends = h.ends }

pub begins_function : (table : Macros) (p : Painted) (ps out : Run) (n : ℕ) (m : Macro) (names : List (List ℕ)) (fs : List Waiting) (made : ℕ) (w : Waiting) (a : Answer) → Shown table p ps n m → m.params ≡ Some names →
    Called p n m ps out w → GoesOn table w fs made a → Gives table fs (p ∷ ps) out made a
begins_function table p ps out n m names fs made w a s kind c g =
    let h = subst (λ (z : Waiting). GoesOn table z fs made a) c.is g in
    record { inner = h.inner; expands = Expands-call table p ps made n m names c.i c.runs h.inner s.known s.free kind (s.follows names kind) c.found c.counted h.fills; ends = h.ends }

pub refused : (table : Macros) (p : Painted) (ps out : Run) (n : ℕ) (m : Macro) (names : List (List ℕ)) (fs : List Waiting) (made : ℕ) (e : MacroError) → Shown table p ps n m → m.params ≡ Some names →
    Refused p m ps e → Stops (Gives table fs (p ∷ ps) out made) e made
refused table p ps out n m names fs made (macro_error.Fault f) s kind (inl h) =
    let x = Expands-open table p ps made n m names s.known s.free kind (s.follows names kind) h.0 in
    subst (λ (z : Fault). Gives table fs (p ∷ ps) out made (Err (broken z, made))) (sym h.1) (record { inner = _; expands = x; ends = Ends-stopped table fs _ })
refused table p ps out n m names fs made (macro_error.Fault f) s kind (inr h) =
    let x = Expands-count table p ps made n m names h.0 s.known s.free kind (s.follows names kind) h.1 h.2 in
    subst (λ (z : Fault). Gives table fs (p ∷ ps) out made (Err (broken z, made))) (sym h.3) (record { inner = _; expands = x; ends = Ends-stopped table fs _ })
refused table p ps out n m names fs made (macro_error.Limit l) s kind h = absurd h
refused table p ps out n m names fs made macro_error.NoMemory s kind h = tt

pub object-begins : (table : Macros) (p : Painted) (ps out : Run) (n : ℕ) (m : Macro) (w : Waiting) → Shown table p ps n m → m.params ≡ None →
    w ≡ record { call = object_call p n m ps; uses = []; args = []; rank = 0; out = out } → Begins table p ps out w
object-begins table p ps out n m w s kind is = (λ fs made a g. begins_object table p ps out n m fs made w a s kind is g, let e = ap waiting_weight is in omega (arith, e))

pub function-begins : (table : Macros) (p : Painted) (ps out : Run) (n : ℕ) (m : Macro) (names : List (List ℕ)) (w : Waiting) → Shown table p ps n m → m.params ≡ Some names → Called p n m ps out w → Begins table p ps out w
function-begins table p ps out n m names w s kind c = (
  λ fs made a g. begins_function table p ps out n m names fs made w a s kind c g,
  let e = ap waiting_weight c.is in let l = call-length p.tok.place ps c.i (s.follows names kind) c.found in let k = arguments-weight m c.i.tokens c.runs c.counted in let q = unreplaced-weight c.runs in
      omega (arith, e, l, k, q),
)

-- ---- steps

pub resumed-stops : (table : Macros) (f : Waiting) (fs : List Waiting) (out : Run) (made more : ℕ) (e : MacroError) →
    Stops (GoesOn table (record f { args = with_replaced f.args f.rank out }) fs made) e more → Stops (Gives table (f ∷ fs) [] out made) e more
resumed-stops table f fs out made more e h = Stops-map (GoesOn table (record f { args = with_replaced f.args f.rank out }) fs made) (Gives table (f ∷ fs) [] out made) e more (λ x g. resumed table f fs out made (Err x) g) h

pub whole : (table : Macros) (run : Run) (made : ℕ) (a : Answer) → Gives table [] run [] made a → Expands table run made a
whole table run made a g = subst (λ (z : Answer). Expands table run made z) (sym (with_front-nil g.inner) ∙ sym g.ends) g.expands

pub done_at : (table : Macros) (calls : List Waiting) (pending out : Run) (made : ℕ) → calls ≡ [] → pending ≡ [] → Gives table calls pending out made (Ok (out, made))
done_at table calls pending out made p q =
    subst (λ (z : List Waiting). Gives table z pending out made (Ok (out, made))) (sym p) (subst (λ (z : Run). Gives table [] z out made (Ok (out, made))) (sym q) (all_done table out made))

pub step-stops : (table : Macros) (calls fs : List Waiting) (f w : Waiting) (pending out : Run) (made more : ℕ) (e : MacroError) → pending ≡ [] → calls ≡ f ∷ fs → w ≡ record f { args = with_replaced f.args f.rank out } →
    Stops (GoesOn table w fs made) e more → Stops (Gives table calls pending out made) e more
step-stops table calls fs f w pending out made more e p q is h =
    let one = subst (λ (z : Waiting). Stops (GoesOn table z fs made) e more) is h in
    let two = resumed-stops table f fs out made more e one in
    subst (λ (z : List Waiting). Stops (Gives table z pending out made) e more) (sym q) (subst (λ (z : Run). Stops (Gives table (f ∷ fs) z out made) e more) (sym p) two)

pub step-gives : (table : Macros) (calls fs : List Waiting) (f w : Waiting) (pending out : Run) (made : ℕ) (a : Answer) → pending ≡ [] → calls ≡ f ∷ fs → w ≡ record f { args = with_replaced f.args f.rank out } →
    GoesOn table w fs made a → Gives table calls pending out made a
step-gives table calls fs f w pending out made a p q is g =
    let one = subst (λ (z : Waiting). GoesOn table z fs made a) is g in
    let two = resumed table f fs out made a one in
    subst (λ (z : List Waiting). Gives table z pending out made a) (sym q) (subst (λ (z : Run). Gives table (f ∷ fs) z out made a) (sym p) two)

pub step-shrinks : (calls fs : List Waiting) (f w : Waiting) (pending out : Run) (made more n : ℕ) → pending ≡ [] → calls ≡ f ∷ fs → w ≡ record f { args = with_replaced f.args f.rank out } →
    remaining more n < remaining made (waiting_weight w + all_weight fs) → remaining more n < remaining made (length pending + all_weight calls)
step-shrinks calls fs f w pending out made more n p q is h =
    let l = lighter f.args f.rank out in
    let e = ap waiting_weight is in
    let c = ap all_weight q in
    let m : length pending ≡ 0 = ap length p in
    omega (arith, h, l, e, c, m)

-- ---- the call

pub expanded-ok : (table : Macros) (toks : List PpToken) (made more : ℕ) (run done : Run) (list : List PpToken) → run ≡ map fresh toks → Expands table run made (Ok (done, more)) → list ≡ map (λ p. p.tok) done → Expanded table toks made (Ok list) more
expanded-ok table toks made more run done list is x l =
    (done, sym (expand-only table (map fresh toks) made (Ok (done, more)) (subst (λ (z : Run). Expands table z made (Ok (done, more))) is x)), l)

pub expanded-err : (table : Macros) (toks : List PpToken) (made more : ℕ) (run : Run) (e : MacroError) → run ≡ map fresh toks → Stops (Expands table run made) e more → Expanded table toks made (Err e) more
expanded-err table toks made more run (macro_error.Fault f) is x = sym (expand-only table (map fresh toks) made (Err (broken f, more)) (subst (λ (z : Run). Expands table z made (Err (broken f, more))) is x))
expanded-err table toks made more run (macro_error.Limit l) is x = sym (expand-only table (map fresh toks) made (Err (passed l, more)) (subst (λ (z : Run). Expands table z made (Err (passed l, more))) is x))
expanded-err table toks made more run macro_error.NoMemory is x = tt

pub fresh-step : (toks : List PpToken) (at : ℕ) (t copy : PpToken) (p : Painted) (run run' X : Run) → Some t ≡ slice_get toks at → copy ≡ t → p ≡ fresh copy → run' ≡ run ++ p ∷ [] → run ++ map fresh (drop at toks) ≡ X → run' ++ map fresh (drop (at + 1) toks) ≡ X
fresh-step toks at t copy p run run' X h same is pushed inv =
    ap (λ (z : Run). z ++ map fresh (drop (at + 1) toks)) (pushed ∙ ap (λ (z : Painted). run ++ z ∷ []) (is ∙ ap fresh same))
    ∙ append_assoc run (fresh t ∷ []) (map fresh (drop (at + 1) toks)) ∙ ap (λ (z : List PpToken). run ++ map fresh z) (sym (drop-get toks at t h)) ∙ inv

pub run-done : (table : Macros) (run : Run) (made now more : ℕ) (out : Run) (calls0 calls : List Waiting) (pending0 out0 pending before : Run) →
    ((a : Answer) → Gives table calls pending before now a → Gives table calls0 pending0 out0 made a) → calls0 ≡ [] → pending0 ≡ run → out0 ≡ [] → more ≡ now → Gives table calls pending before now (Ok (out, now)) →
    Expands table run made (Ok (out, more))
run-done table run made now more out calls0 calls pending0 out0 pending before inv p q r same g =
    let one = inv (Ok (out, now)) g in
    let two = subst (λ (z : List Waiting). Gives table z pending0 out0 made (Ok (out, now))) p one in
    let three = subst (λ (z : Run). Gives table [] z out0 made (Ok (out, now))) q two in
    let four = subst (λ (z : Run). Gives table [] run z made (Ok (out, now))) r three in
    whole table run made (Ok (out, more)) (subst (λ (n : ℕ). Gives table [] run [] made (Ok (out, n))) (sym same) four)
