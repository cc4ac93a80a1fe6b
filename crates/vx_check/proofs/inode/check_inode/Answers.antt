use Rattle.std.proofs.Common.{rules, ◌≡◌, ◌+◌, ◌++◌, true, false, sym, ap, subst, ◌∙◌, arith}
use Rattle.std.proofs.lemmas.Grind.{common_steps}
use Rattle.std.proofs.lemmas.List.{append-nil}
use Rattle.std.specs.Prelude.{Option, Some, None}
use Rattle.vx_base.specs.declared.inode.InodeValue.{InodeValue}
use Rattle.vx_sound.specs.Said.{inode_said, claimed_by, claims_below, chain_said, blocks_said}
use Rattle.vx_check.specs.Parts.{AreMarksOf, Known}
use Rattle.vx_check.proofs.OneInode.{bad_inode, free_inode, used_finds, free_targets, claims_next, on_ok}
use Rattle.vx_check.proofs.inode.check_inode.Goals as goal
use Rattle.vx_check.proofs.inode.check_inode.Goals.{then-bad-via-then-bad, then-bad-via-else-bad+then-not-slot_fits}

pub returns-then-bad-clause-finds : goal.returns-then-bad-clause-finds
returns-then-bad-clause-finds g c = λ strict image known.
    bad_inode c.args.volume.now image c.args.ino c.args.value.now c.args.bad (c.requires.slot image known) c.requires.is strict
    c.get-sector.result (c.get-sector.ensures ∙ c.inode_place.ensures.sector)
    (λ good. elim c.then-bad.branch [
      | then-bad-via-then-bad w ↦ let bad : c.args.bad ≡ true = w.if-bad.true in absurd (cc)
      | then-bad-via-else-bad+then-not-slot_fits w ↦
          let no : w.slot_fits.result ≡ false = first_of (search rules, grind (arith, common_steps)) in
          sym w.slot_fits.ensures ∙ no
    ])

pub returns-in-None-clause-finds : goal.returns-in-None-clause-finds
returns-in-None-clause-finds g c = λ strict image known.
    let good : c.args.bad ≡ false = first_of (search rules, grind (arith, common_steps)) in
    let fine : c.slot_fits.result ≡ true = first_of (search rules, grind (arith, common_steps)) in
    free_inode c.args.volume.now image c.args.ino c.args.value.now c.args.bad (c.requires.slot image known) c.requires.is strict good
    (sym c.slot_fits.ensures ∙ fine) c.in-None.is

pub returns-in-None-clause-marks : goal.returns-in-None-clause-marks
returns-in-None-clause-marks g c = λ image known.
    let v = c.args.volume.now in
    let said : inode_said v image c.args.ino ≡ None = (c.requires.slot image known).said ∙ c.in-None.is in
    subst (AreMarksOf c.args.marks.now) (sym (claims_next v image c.args.ino ∙ ap (λ (o : Option InodeValue). claims_below v image c.args.ino ++ claimed_by v image o) said ∙ append-nil (claims_below v image c.args.ino)))
    (c.requires.marks image known)

pub returns-in-None-clause-targets : goal.returns-in-None-clause-targets
returns-in-None-clause-targets g c = λ image known.
    c.new.ensures.items ∙ free_targets c.args.volume.now image c.args.ino ((c.requires.slot image known).said ∙ c.in-None.is)

pub returns-in-Some-clause-finds : goal.returns-in-Some-clause-finds
returns-in-Some-clause-finds g c = λ strict image known.
    let good : c.args.bad ≡ false = first_of (search rules, grind (arith, common_steps)) in
    let fine : c.slot_fits.result ≡ true = first_of (search rules, grind (arith, common_steps)) in
    used_finds c.args.volume.now image c.args.ino c.args.value.now c.args.bad (c.requires.slot image (c.check_value.ensures.read.seen image known)) c.requires.is strict good
    (sym c.slot_fits.ensures ∙ fine) c.in-Some.value c.in-Some.is c.check_value.result (c.check_value.ensures.finds strict image known)

pub returns-in-Some-clause-marks : goal.returns-in-Some-clause-marks
returns-in-Some-clause-marks g c =
    let v = c.args.volume.now in
    let n = c.args.ino in
    let i = c.in-Some.value in
    on_ok (Known (g.D.Sectors.view c.check_value.new.dev) (λ image. AreMarksOf c.check_value.new.marks (claims_below v image n ++ (chain_said v image i ++ blocks_said v image i))))
    (Known (g.D.Sectors.view c.check_value.new.dev) (λ image. AreMarksOf c.check_value.new.marks (claims_below v image (n + 1)))) c.check_value.result
    (λ h image known.
    let said : inode_said v image n ≡ Some i = (c.requires.slot image (c.check_value.ensures.read.seen image known)).said ∙ c.in-Some.is in
    subst (AreMarksOf c.check_value.new.marks) (sym (claims_next v image n ∙ ap (λ (o : Option InodeValue). claims_below v image n ++ claimed_by v image o) said)) (h image known))
    c.check_value.ensures.marks
