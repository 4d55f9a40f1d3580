use Rattle.std.proofs.Common.{◌≡◌, refl, ap, sym, ◌∙◌, codes, lit<}
use Rattle.model_preprocessing.specs.declared.headers.TheConstants.{STDDEF, STDBOOL, STDINT, LIMITS, STDLIB, STDIO, STRING, CTYPE, ASSERT}
use Rattle.pp_lines.proofs.HeaderLaws.{header-of, is-stddef, is-stdbool, is-stdint, is-limits, is-stdlib, is-stdio, is-string, is-ctype, is-assert, is-none}
use Rattle.pp_lines.proofs.headers.built_in.Goals as goal
use Rattle.model_types.specs.Texts.{same_text}

pub returns-then-eq : goal.returns-then-eq
returns-then-eq c =
    header-of c.header.result (λ b. b.shown.now) (λ b. b.text.now) c.args.name.now (codes "stddef.h") _ STDDEF.now c.header.ensures (ap (same_text c.args.name.now) (sym c.as_slice.ensures) ∙ sym c.eq.ensures ∙ c.if-eq.true) refl
    (is-stddef c.args.name.now (ap (same_text c.args.name.now) (sym c.as_slice.ensures) ∙ sym c.eq.ensures ∙ c.if-eq.true)) (lit< tt)

pub returns-then-eq-2 : goal.returns-then-eq-2
returns-then-eq-2 c =
    header-of c.header-then-eq-2.result (λ b. b.shown.now) (λ b. b.text.now) c.args.name.now (codes "stdbool.h") _ STDBOOL.now c.header-then-eq-2.ensures (ap (same_text c.args.name.now) (sym c.as_slice-else-eq.ensures) ∙ sym c.eq-else-eq.ensures ∙ c.if-eq-2.true) refl
    (is-stdbool c.args.name.now (ap (same_text c.args.name.now) (sym c.as_slice.ensures) ∙ sym c.eq.ensures ∙ c.if-eq.false) (ap (same_text c.args.name.now) (sym c.as_slice-else-eq.ensures) ∙ sym c.eq-else-eq.ensures ∙ c.if-eq-2.true)) (lit< tt)

pub returns-then-eq-3 : goal.returns-then-eq-3
returns-then-eq-3 c =
    header-of c.header-then-eq-3.result (λ b. b.shown.now) (λ b. b.text.now) c.args.name.now (codes "stdint.h") _ STDINT.now c.header-then-eq-3.ensures (ap (same_text c.args.name.now) (sym c.as_slice-else-eq-2.ensures) ∙ sym c.eq-else-eq-2.ensures ∙ c.if-eq-3.true) refl
    (is-stdint c.args.name.now (ap (same_text c.args.name.now) (sym c.as_slice.ensures) ∙ sym c.eq.ensures ∙ c.if-eq.false) (ap (same_text c.args.name.now) (sym c.as_slice-else-eq.ensures) ∙ sym c.eq-else-eq.ensures ∙ c.if-eq-2.false) (ap (same_text c.args.name.now) (sym c.as_slice-else-eq-2.ensures) ∙ sym c.eq-else-eq-2.ensures ∙ c.if-eq-3.true)) (lit< tt)

pub returns-then-eq-4 : goal.returns-then-eq-4
returns-then-eq-4 c =
    header-of c.header-then-eq-4.result (λ b. b.shown.now) (λ b. b.text.now) c.args.name.now (codes "limits.h") _ LIMITS.now c.header-then-eq-4.ensures (ap (same_text c.args.name.now) (sym c.as_slice-else-eq-3.ensures) ∙ sym c.eq-else-eq-3.ensures ∙ c.if-eq-4.true) refl
    (is-limits c.args.name.now (ap (same_text c.args.name.now) (sym c.as_slice.ensures) ∙ sym c.eq.ensures ∙ c.if-eq.false) (ap (same_text c.args.name.now) (sym c.as_slice-else-eq.ensures) ∙ sym c.eq-else-eq.ensures ∙ c.if-eq-2.false) (ap (same_text c.args.name.now) (sym c.as_slice-else-eq-2.ensures) ∙ sym c.eq-else-eq-2.ensures ∙ c.if-eq-3.false) (ap (same_text c.args.name.now) (sym c.as_slice-else-eq-3.ensures) ∙ sym c.eq-else-eq-3.ensures ∙ c.if-eq-4.true)) (lit< tt)

pub returns-then-eq-5 : goal.returns-then-eq-5
returns-then-eq-5 c =
    header-of c.header-then-eq-5.result (λ b. b.shown.now) (λ b. b.text.now) c.args.name.now (codes "stdlib.h") _ STDLIB.now c.header-then-eq-5.ensures (ap (same_text c.args.name.now) (sym c.as_slice-else-eq-4.ensures) ∙ sym c.eq-else-eq-4.ensures ∙ c.if-eq-5.true) refl
    (is-stdlib c.args.name.now (ap (same_text c.args.name.now) (sym c.as_slice.ensures) ∙ sym c.eq.ensures ∙ c.if-eq.false) (ap (same_text c.args.name.now) (sym c.as_slice-else-eq.ensures) ∙ sym c.eq-else-eq.ensures ∙ c.if-eq-2.false) (ap (same_text c.args.name.now) (sym c.as_slice-else-eq-2.ensures) ∙ sym c.eq-else-eq-2.ensures ∙ c.if-eq-3.false) (ap (same_text c.args.name.now) (sym c.as_slice-else-eq-3.ensures) ∙ sym c.eq-else-eq-3.ensures ∙ c.if-eq-4.false) (ap (same_text c.args.name.now) (sym c.as_slice-else-eq-4.ensures) ∙ sym c.eq-else-eq-4.ensures ∙ c.if-eq-5.true)) (lit< tt)

pub returns-then-eq-6 : goal.returns-then-eq-6
returns-then-eq-6 c =
    header-of c.header-then-eq-6.result (λ b. b.shown.now) (λ b. b.text.now) c.args.name.now (codes "stdio.h") _ STDIO.now c.header-then-eq-6.ensures (ap (same_text c.args.name.now) (sym c.as_slice-else-eq-5.ensures) ∙ sym c.eq-else-eq-5.ensures ∙ c.if-eq-6.true) refl
    (is-stdio c.args.name.now (ap (same_text c.args.name.now) (sym c.as_slice.ensures) ∙ sym c.eq.ensures ∙ c.if-eq.false) (ap (same_text c.args.name.now) (sym c.as_slice-else-eq.ensures) ∙ sym c.eq-else-eq.ensures ∙ c.if-eq-2.false) (ap (same_text c.args.name.now) (sym c.as_slice-else-eq-2.ensures) ∙ sym c.eq-else-eq-2.ensures ∙ c.if-eq-3.false) (ap (same_text c.args.name.now) (sym c.as_slice-else-eq-3.ensures) ∙ sym c.eq-else-eq-3.ensures ∙ c.if-eq-4.false) (ap (same_text c.args.name.now) (sym c.as_slice-else-eq-4.ensures) ∙ sym c.eq-else-eq-4.ensures ∙ c.if-eq-5.false) (ap (same_text c.args.name.now) (sym c.as_slice-else-eq-5.ensures) ∙ sym c.eq-else-eq-5.ensures ∙ c.if-eq-6.true)) (lit< tt)

pub returns-then-eq-7 : goal.returns-then-eq-7
returns-then-eq-7 c =
    header-of c.header-then-eq-7.result (λ b. b.shown.now) (λ b. b.text.now) c.args.name.now (codes "string.h") _ STRING.now c.header-then-eq-7.ensures (ap (same_text c.args.name.now) (sym c.as_slice-else-eq-6.ensures) ∙ sym c.eq-else-eq-6.ensures ∙ c.if-eq-7.true) refl
    (is-string c.args.name.now (ap (same_text c.args.name.now) (sym c.as_slice.ensures) ∙ sym c.eq.ensures ∙ c.if-eq.false) (ap (same_text c.args.name.now) (sym c.as_slice-else-eq.ensures) ∙ sym c.eq-else-eq.ensures ∙ c.if-eq-2.false) (ap (same_text c.args.name.now) (sym c.as_slice-else-eq-2.ensures) ∙ sym c.eq-else-eq-2.ensures ∙ c.if-eq-3.false) (ap (same_text c.args.name.now) (sym c.as_slice-else-eq-3.ensures) ∙ sym c.eq-else-eq-3.ensures ∙ c.if-eq-4.false) (ap (same_text c.args.name.now) (sym c.as_slice-else-eq-4.ensures) ∙ sym c.eq-else-eq-4.ensures ∙ c.if-eq-5.false) (ap (same_text c.args.name.now) (sym c.as_slice-else-eq-5.ensures) ∙ sym c.eq-else-eq-5.ensures ∙ c.if-eq-6.false) (ap (same_text c.args.name.now) (sym c.as_slice-else-eq-6.ensures) ∙ sym c.eq-else-eq-6.ensures ∙ c.if-eq-7.true)) (lit< tt)

pub returns-then-eq-8 : goal.returns-then-eq-8
returns-then-eq-8 c =
    header-of c.header-then-eq-8.result (λ b. b.shown.now) (λ b. b.text.now) c.args.name.now (codes "ctype.h") _ CTYPE.now c.header-then-eq-8.ensures (ap (same_text c.args.name.now) (sym c.as_slice-else-eq-7.ensures) ∙ sym c.eq-else-eq-7.ensures ∙ c.if-eq-8.true) refl
    (is-ctype c.args.name.now (ap (same_text c.args.name.now) (sym c.as_slice.ensures) ∙ sym c.eq.ensures ∙ c.if-eq.false) (ap (same_text c.args.name.now) (sym c.as_slice-else-eq.ensures) ∙ sym c.eq-else-eq.ensures ∙ c.if-eq-2.false) (ap (same_text c.args.name.now) (sym c.as_slice-else-eq-2.ensures) ∙ sym c.eq-else-eq-2.ensures ∙ c.if-eq-3.false) (ap (same_text c.args.name.now) (sym c.as_slice-else-eq-3.ensures) ∙ sym c.eq-else-eq-3.ensures ∙ c.if-eq-4.false) (ap (same_text c.args.name.now) (sym c.as_slice-else-eq-4.ensures) ∙ sym c.eq-else-eq-4.ensures ∙ c.if-eq-5.false) (ap (same_text c.args.name.now) (sym c.as_slice-else-eq-5.ensures) ∙ sym c.eq-else-eq-5.ensures ∙ c.if-eq-6.false) (ap (same_text c.args.name.now) (sym c.as_slice-else-eq-6.ensures) ∙ sym c.eq-else-eq-6.ensures ∙ c.if-eq-7.false) (ap (same_text c.args.name.now) (sym c.as_slice-else-eq-7.ensures) ∙ sym c.eq-else-eq-7.ensures ∙ c.if-eq-8.true)) (lit< tt)

pub returns-then-eq-9 : goal.returns-then-eq-9
returns-then-eq-9 c =
    header-of c.header-then-eq-9.result (λ b. b.shown.now) (λ b. b.text.now) c.args.name.now (codes "assert.h") _ ASSERT.now c.header-then-eq-9.ensures (ap (same_text c.args.name.now) (sym c.as_slice-else-eq-8.ensures) ∙ sym c.eq-else-eq-8.ensures ∙ c.if-eq-9.true) refl
    (is-assert c.args.name.now (ap (same_text c.args.name.now) (sym c.as_slice.ensures) ∙ sym c.eq.ensures ∙ c.if-eq.false) (ap (same_text c.args.name.now) (sym c.as_slice-else-eq.ensures) ∙ sym c.eq-else-eq.ensures ∙ c.if-eq-2.false) (ap (same_text c.args.name.now) (sym c.as_slice-else-eq-2.ensures) ∙ sym c.eq-else-eq-2.ensures ∙ c.if-eq-3.false) (ap (same_text c.args.name.now) (sym c.as_slice-else-eq-3.ensures) ∙ sym c.eq-else-eq-3.ensures ∙ c.if-eq-4.false) (ap (same_text c.args.name.now) (sym c.as_slice-else-eq-4.ensures) ∙ sym c.eq-else-eq-4.ensures ∙ c.if-eq-5.false) (ap (same_text c.args.name.now) (sym c.as_slice-else-eq-5.ensures) ∙ sym c.eq-else-eq-5.ensures ∙ c.if-eq-6.false) (ap (same_text c.args.name.now) (sym c.as_slice-else-eq-6.ensures) ∙ sym c.eq-else-eq-6.ensures ∙ c.if-eq-7.false) (ap (same_text c.args.name.now) (sym c.as_slice-else-eq-7.ensures) ∙ sym c.eq-else-eq-7.ensures ∙ c.if-eq-8.false) (ap (same_text c.args.name.now) (sym c.as_slice-else-eq-8.ensures) ∙ sym c.eq-else-eq-8.ensures ∙ c.if-eq-9.true)) (lit< tt)

pub returns-else-eq-9 : goal.returns-else-eq-9
returns-else-eq-9 c = is-none c.args.name.now (ap (same_text c.args.name.now) (sym c.as_slice.ensures) ∙ sym c.eq.ensures ∙ c.if-eq.false) (ap (same_text c.args.name.now) (sym c.as_slice-else-eq.ensures) ∙ sym c.eq-else-eq.ensures ∙ c.if-eq-2.false) (ap (same_text c.args.name.now) (sym c.as_slice-else-eq-2.ensures) ∙ sym c.eq-else-eq-2.ensures ∙ c.if-eq-3.false) (ap (same_text c.args.name.now) (sym c.as_slice-else-eq-3.ensures) ∙ sym c.eq-else-eq-3.ensures ∙ c.if-eq-4.false) (ap (same_text c.args.name.now) (sym c.as_slice-else-eq-4.ensures) ∙ sym c.eq-else-eq-4.ensures ∙ c.if-eq-5.false) (ap (same_text c.args.name.now) (sym c.as_slice-else-eq-5.ensures) ∙ sym c.eq-else-eq-5.ensures ∙ c.if-eq-6.false) (ap (same_text c.args.name.now) (sym c.as_slice-else-eq-6.ensures) ∙ sym c.eq-else-eq-6.ensures ∙ c.if-eq-7.false) (ap (same_text c.args.name.now) (sym c.as_slice-else-eq-7.ensures) ∙ sym c.eq-else-eq-7.ensures ∙ c.if-eq-8.false) (ap (same_text c.args.name.now) (sym c.as_slice-else-eq-8.ensures) ∙ sym c.eq-else-eq-8.ensures ∙ c.if-eq-9.false)
