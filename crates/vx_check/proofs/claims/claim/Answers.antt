use Rattle.std.proofs.Common.{rules, ◌≡◌, ◌<◌, ◌++◌, ◌∷◌, [], ℕ, true, false, length, get_or, set, sym, subst, ◌∙◌, arith}
use Rattle.std.proofs.lemmas.Grind.{common_steps}
use Rattle.vx_layout.specs.Places.{is_data}
use Rattle.vx_check.specs.Parts.{AreMarksOf}
use Rattle.vx_check.proofs.Marks.{marks_more, data_below}
use Rattle.vx_check.proofs.claims.claim.Goals as goal

pub bounds-marks-at : goal.bounds-marks-at
bounds-marks-at c =
    let d : is_data c.args.volume.now c.args.b ≡ true = first_of (search rules, grind (arith, common_steps)) in
    let low = data_below c.args.volume.now c.args.b d in
    let e = c.get-at.ensures in let room = c.requires.room in omega arith

pub bounds-marks-at-2 : goal.bounds-marks-at-2
bounds-marks-at-2 c =
    let d : is_data c.args.volume.now c.args.b ≡ true = first_of (search rules, grind (arith, common_steps)) in
    let low = data_below c.args.volume.now c.args.b d in
    let e = c.get-at.ensures in let room = c.requires.room in omega arith

pub returns-clause-within : goal.returns-clause-within
returns-clause-within c = λ _.
    let d : is_data c.args.volume.now c.args.b ≡ true = first_of (search rules, grind (arith, common_steps)) in
    let low = data_below c.args.volume.now c.args.b d in
    let room = c.requires.room in omega arith

pub returns-clause-right : goal.returns-clause-right
returns-clause-right c = λ before marks _.
    let d : is_data c.args.volume.now c.args.b ≡ true = first_of (search rules, grind (arith, common_steps)) in
    let low = data_below c.args.volume.now c.args.b d in
    let room = c.requires.room in
    let inside : c.args.b < length c.args.marks.now = omega arith in
    let free : get_or c.args.marks.now c.args.b false ≡ false = subst (λ (x : ℕ). get_or c.args.marks.now x false ≡ false) c.get-at.ensures c.if-marks-at.false in (
      record { is_data = d; new = sym (marks c.args.b) ∙ free },
      subst (λ (x : ℕ). AreMarksOf (set c.args.marks.now x true) (before ++ c.args.b ∷ [])) (sym c.get-at.ensures) (marks_more c.args.marks.now before c.args.b inside marks),
    )
