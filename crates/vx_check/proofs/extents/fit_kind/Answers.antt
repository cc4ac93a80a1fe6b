use Rattle.std.proofs.Common.{◌≡◌, ◌*◌, ℕ, refl, sym, ap, ◌∙◌, arith}
use Rattle.std.proofs.lemmas.Grind.{common_steps}
use Rattle.std.proofs.lemmas.Bool.{eqb-true}
use Rattle.vx_check.proofs.Ordering.{directory_right, directory_is}
use Rattle.vx_check.proofs.extents.fit_kind.Goals as goal

pub returns-in-Some-clause-right : goal.returns-in-Some-clause-right
returns-in-Some-clause-right c = λ v block same.
    let s = c.in-Some.ensures.some c.in-Some.pages refl in
    directory_right v c.args.value.now c.args.extents.now block c.args.value.now.inode.kind c.in-Some.pages c.in-Directory.is s.0 s.1 s.2 (eqb-true c.args.value.now.inode.size (1024 * c.in-Some.pages) same)

pub returns-in-Some-clause-wrong : goal.returns-in-Some-clause-wrong
returns-in-Some-clause-wrong c = λ v block other h.
    let s = c.in-Some.ensures.some c.in-Some.pages refl in
    let d = directory_is v c.args.value.now c.args.extents.now block c.args.value.now.inode.kind c.in-Directory.is h in
    let size : c.args.value.now.inode.size ≡ 1024 * c.in-Some.pages = d.1 ∙ ap (λ (n : ℕ). 1024 * n) (sym s.1) in
    absurd (grind (arith, common_steps))

pub returns-in-None-clause-wrong : goal.returns-in-None-clause-wrong
returns-in-None-clause-wrong c = λ v block _ h.
    let d = directory_is v c.args.value.now c.args.extents.now block c.args.value.now.inode.kind c.in-Directory.is h in
    c.in-None.ensures.none refl d.0 d.2
