-- An item of a list has fewer nodes than the list, so a recursion over the items of a list ends.
use Rattle.std.proofs.Common.{◌≡◌, ◌≤◌, ◌<◌, ◌+◌, ℕ, zero, suc, List, [], ◌∷◌, length, get_or, arith}
use Rattle.model_core.specs.Types89 as t
use Rattle.model_core.specs.Program89 as m
use Rattle.c89_tree.specs.ProgramNodes89.{Item, types, exprs, inits, stats, items}
use Rattle.c89_tree.specs.apparatus.UnitSizes.{type_nodes, types_nodes, expr_nodes, exprs_nodes, init_nodes, inits_nodes, stat_nodes, stats_nodes, items_nodes}

one : {A : Type 0} (f : A → ℕ) (g : List A → ℕ) → ((x : A) (xs : List A) → suc (f x) + g xs ≤ g (x ∷ xs))
    → (xs : List A) (i : ℕ) (x : A) → i < length xs → x ≡ get_or xs i x → f x < g xs
one f g step [] i x h is = absurd (omega (arith, h))
one f g step (y ∷ ys) zero x h is = let s = step y ys in rw (is) (omega (arith, s))
one f g step (y ∷ ys) (suc i) x h is =
    let less : f x < g ys = one f g step ys i x (omega (arith, h)) is in
    let s = step y ys in
    omega (arith, less, s)

pub one_type : (xs : List t.Type89) (i : ℕ) (x : t.Type89) → i < length xs → x ≡ get_or xs i x → type_nodes x < types_nodes (types xs)
one_type = one type_nodes (λ xs. types_nodes (types xs)) (λ x xs. omega arith)

pub one_expr : (xs : List m.Expr) (i : ℕ) (x : m.Expr) → i < length xs → x ≡ get_or xs i x → expr_nodes x < exprs_nodes (exprs xs)
one_expr = one expr_nodes (λ xs. exprs_nodes (exprs xs)) (λ x xs. omega arith)

pub one_init : (xs : List m.Init) (i : ℕ) (x : m.Init) → i < length xs → x ≡ get_or xs i x → init_nodes x < inits_nodes (inits xs)
one_init = one init_nodes (λ xs. inits_nodes (inits xs)) (λ x xs. omega arith)

pub one_stat : (xs : List m.Stat) (i : ℕ) (x : m.Stat) → i < length xs → x ≡ get_or xs i x → stat_nodes x < stats_nodes (stats xs)
one_stat = one stat_nodes (λ xs. stats_nodes (stats xs)) (λ x xs. omega arith)

pub one_item : (xs : List Item) (i : ℕ) (x : Item) → i < length xs → x ≡ get_or xs i x → stat_nodes x.stat < items_nodes (items xs)
one_item = one (λ x. stat_nodes x.stat) (λ xs. items_nodes (items xs)) (λ x xs. omega arith)
