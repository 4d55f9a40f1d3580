use Rattle.std.proofs.Common.{◌≡◌, ◌<◌, ◌≤◌, ◌+◌, nat_lt, true, false, length, arith, ap, inl, inr}
use Rattle.std.proofs.lemmas.Bool.Decides.{nat_tests}
use Rattle.model_preprocessing.specs.FileSearch.{MOST_FILES, MOST_BYTES}
use Rattle.pp_directives.proofs.taking.check_room.Goals as goal

pub returns-then-count-ge-MOST_FILES : goal.returns-then-count-ge-MOST_FILES
unfolding MOST_FILES
returns-then-count-ge-MOST_FILES c =
    let held : length c.unit.inside.held ≡ length c.args.unit.now.held = ap (λ s. length s.held) c.unit.view_is in
    let past : 1024 < length c.args.unit.now.held + 1 = omega (arith, held, c.if-count-ge-MOST_FILES.true, c.count.ensures) in
    inl (grind (arith, nat_tests, past), c.limit.ensures)

pub returns-then-total-gt-MOST_BYTES : goal.returns-then-total-gt-MOST_BYTES
unfolding MOST_FILES MOST_BYTES
returns-then-total-gt-MOST_BYTES c =
    let held : length c.unit.inside.held ≡ length c.args.unit.now.held = ap (λ s. length s.held) c.unit.view_is in
    let bytes : c.unit.inside.bytes ≡ c.args.unit.now.bytes = ap (λ s. s.bytes) c.unit.view_is in
    let within : length c.args.unit.now.held + 1 ≤ 1024 = omega (arith, held, c.if-count-ge-MOST_FILES.false, c.count.ensures) in
    let past : 67108864 < c.args.unit.now.bytes + c.args.size = omega (arith, bytes, c.if-total-gt-MOST_BYTES.true, c.saturating_add-total.ensures) in
    inr (grind (arith, nat_tests, within), grind (arith, nat_tests, past), c.limit-then-total-gt-MOST_BYTES.ensures)

pub returns : goal.returns
unfolding MOST_FILES MOST_BYTES
returns c =
    let held : length c.unit.inside.held ≡ length c.args.unit.now.held = ap (λ s. length s.held) c.unit.view_is in
    let bytes : c.unit.inside.bytes ≡ c.args.unit.now.bytes = ap (λ s. s.bytes) c.unit.view_is in
    let within : length c.args.unit.now.held + 1 ≤ 1024 = omega (arith, held, c.if-count-ge-MOST_FILES.false, c.count.ensures) in
    let fits : c.args.unit.now.bytes + c.args.size ≤ 67108864 = omega (arith, bytes, c.if-total-gt-MOST_BYTES.false, c.saturating_add-total.ensures) in
    (omega (arith, bytes, c.if-total-gt-MOST_BYTES.false, c.saturating_add-total.ensures), grind (arith, nat_tests, within), grind (arith, nat_tests, fits))
