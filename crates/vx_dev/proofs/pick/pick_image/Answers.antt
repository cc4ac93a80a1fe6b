use Rattle.std.proofs.Common.{◌+◌, ◌<◌, ◌∙◌, ap, arith, get_or, length}
use Rattle.std.proofs.lemmas.List.{length-take}
use Rattle.vx_dev.specs.Picks.{value_number}
use Rattle.vx_dev.proofs.Picks.{at_may, at_moment, at_picked, at_values, length-put_values, within_open, within_settled}
use Rattle.vx_dev.proofs.pick.pick_image.Goals as goal

pub put_counts-requires : goal.put_counts-requires
put_counts-requires c = λ s bytes has.
    let lt : s < length c.args.disk.now.start = within_open _ c.args.moment _ _ _ c.split_at.ensures.back c.operations.ensures.within s bytes has in
    omega (arith, c.len.ensures, ap length (c.in_ok-image.ensures.cases ∙ c.start.ensures))

pub pick_numbers-requires : goal.pick_numbers-requires
pick_numbers-requires c = λ s lt.
    omega (arith, ap (λ l. get_or l s 0) c.as_mut_slice-numbers.ensures.value, c.in_ok-numbers.ensures.counts s, length-put_values s c.split_at.result.1.now, c.split_at.ensures.back_len, length-take c.args.moment c.operations.result.now, c.operations.ensures.limit)

pub replay-requires : goal.replay-requires
replay-requires c = λ s bytes has.
    let lt : s < length c.args.disk.now.start = within_settled _ c.args.moment _ _ _ c.split_at.ensures.front c.operations.ensures.within s bytes has in
    omega (arith, ap length (c.in_ok-image.ensures.cases ∙ c.start.ensures))

pub replay_to-requires-clause-within : goal.replay_to-requires-clause-within
replay_to-requires-clause-within c = λ s bytes has.
    let lt : s < length c.args.disk.now.start = within_open _ c.args.moment _ _ _ c.split_at.ensures.back c.operations.ensures.within s bytes has in
    omega (arith, c.replay.ensures.length, ap length (c.in_ok-image.ensures.cases ∙ c.start.ensures))

pub returns-clause-allowed : goal.returns-clause-allowed
returns-clause-allowed c = λ s. at_may _ s _ _ _
    (at_moment c.args.disk.now.start c.in_ok-image.image c.args.disk.now.ops.items c.operations.result.now c.args.moment s _ _ _ (c.in_ok-image.ensures.cases ∙ c.start.ensures) c.operations.ensures.all (at_values _ _ c.replay_to.new.image _ _ _ _ s _ (c.settled_len.ensures.values c.in_ok-image.image s) c.split_at.ensures.front c.split_at.ensures.back (c.replay.ensures.last s) (c.replay_to.ensures.picked s)))

pub returns-clause-picked : goal.returns-clause-picked
returns-clause-picked c = λ s lt.
    let number_is = c.pick_numbers.ensures s (omega (arith, c.replay_to.ensures.length, c.replay.ensures.length, ap length c.as_mut_slice-numbers.ensures.value, c.in_ok-numbers.ensures.length, c.len.ensures)) in
    at_picked _ c.args.seed s _ _ _
    (at_moment c.args.disk.now.start c.in_ok-image.image c.args.disk.now.ops.items c.operations.result.now c.args.moment s _ _ _ (c.in_ok-image.ensures.cases ∙ c.start.ensures) c.operations.ensures.all (at_values _ _ c.replay_to.new.image _ _ _ _ s _ (c.settled_len.ensures.values c.in_ok-image.image s) c.split_at.ensures.front c.split_at.ensures.back (c.replay.ensures.last s) (c.replay_to.ensures.picked s)))
    (number_is ∙ ap (λ n. value_number c.args.seed s (n + 1)) (ap (λ l. get_or l s 0) c.as_mut_slice-numbers.ensures.value ∙ c.in_ok-numbers.ensures.counts s))
