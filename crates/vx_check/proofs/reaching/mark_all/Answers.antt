use Rattle.std.proofs.Common.{◌<◌, ◌+◌, ℕ, Bool, List, length, get_or, set, sym, subst, inl, inr, arith, refl}
use Rattle.std.proofs.Common.{true}
use Rattle.vx_check.specs.Reaching.{Marks}
use Rattle.vx_check.proofs.Marking.{no_mark, same_mark, new_mark}
use Rattle.vx_check.proofs.reaching.mark_all.Goals as goal

pub loop-n-init : goal.loop-n-init
loop-n-init c = no_mark c.args.marks.now.items c.args.found.now.items c.args.targets.now

pub mark_one-requires : goal.mark_one-requires
mark_one-requires c =
    let long = c.loop-n.invariant.length_is in
    let t = c.loop-n.n-index in
    let at = c.requires.inside t (omega arith) in
    omega arith

pub loop-n-preserved : goal.loop-n-preserved
loop-n-preserved c =
    let old = c.args.marks.now.items in
    let found = c.args.found.now.items in
    let targets = c.args.targets.now in
    let t = c.loop-n.n-index in
    let x = get_or targets t 0 in
    let long = c.loop-n.invariant.length_is in
    let at = c.requires.inside t (omega arith) in
    let lt : x < length c.loop-n.marks.items = omega arith in
    elim c.in_ok-mark_one.ensures [
      | inl h ↦
          subst (λ (ms : List Bool). Marks old found targets (t + 1) ms c.mark_one.new.found.items) (sym h.1)
          (subst (λ (fs : List ℕ). Marks old found targets (t + 1) c.loop-n.marks.items fs) (sym h.2) (same_mark old found targets t c.loop-n.marks.items c.loop-n.found.items h.0 c.loop-n.invariant))
      | inr h ↦
          subst (λ (ms : List Bool). Marks old found targets (t + 1) ms c.mark_one.new.found.items) (sym h.1)
          (subst (λ (fs : List ℕ). Marks old found targets (t + 1) (set c.loop-n.marks.items x true) fs) (sym h.2)
          (new_mark old found targets t x c.loop-n.marks.items c.loop-n.found.items refl lt h.0 c.loop-n.invariant))
    ]
