use Rattle.std.proofs.Common.{◌≡◌, suc, ◌+◌, ◌-◌, List, [], ◌∷◌, ◌++◌, length, Err, sym, subst, ap, ◌∙◌, arith, length-append, length-drop}
use Rattle.std.specs.List.{AllByRecursion}
use Rattle.vx_base.specs.declared.inode.DirEntry.{DirEntry}
use Rattle.vx_layout.specs.Dirs.{entries_bytes, entry_at, IsEntry}
use Rattle.vx_codec.specs.declared.directory.DirReadRefusal.TheVariants.{Bad}
use Rattle.vx_codec.proofs.DirLaws.{StandBehind, stand_more, stand_all, stand_none, bytes_more, each_more, same_refusal, to_the_end, read_rest}
use Rattle.vx_codec.proofs.directory.entries_of.Goals as goal

pub returns-in_err-entry-clause-bad : goal.returns-in_err-entry-clause-bad
returns-in_err-entry-clause-bad c = λ e.
    let s = c.args.bytes.now in
    let count = c.u16_at-count.result in
    let one_left : count - c.loop.counter ≡ suc (c.u16_at-count.result - (c.loop.counter + 1)) = omega (arith, c.loop-test.true) in
    let stand = subst (λ n. StandBehind count c.loop.value n c.loop.at s) one_left c.loop.invariant.stand in
    let bad = same_refusal c.from_residual.result c.in_err-entry.field-0.0 Bad c.from_residual.ensures.1 e in
    let none = c.in_err-entry.ensures.bad (ap (λ x. Err x) bad) in
    stand_none count (c.u16_at-count.result - (c.loop.counter + 1)) c.loop.value c.loop.at s stand c.u16_at-count.ensures (sym (ap entry_at (to_the_end s c.loop.at)) ∙ none)

pub loop-preserved : goal.loop-preserved
loop-preserved c =
    let s = c.args.bytes.now in
    let count = c.u16_at-count.result in
    let es = c.loop.value in
    let e = c.in_ok-entry.entry in
    let at = c.loop.at in
    let before = c.loop.invariant in
    let pushed : c.push.new.self ≡ c.loop.value ++ c.in_ok-entry.entry ∷ [] = c.in_ok-push.ensures.ok in
    let name : length c.as_slice.result.now ≡ length c.in_ok-entry.entry.name = ap length c.as_slice.ensures in
    let one_left : count - c.loop.counter ≡ suc (c.u16_at-count.result - (c.loop.counter + 1)) = omega (arith, c.loop-test.true) in
    let stand = subst (λ n. StandBehind count es n at s) one_left before.stand in
    let here = to_the_end s at in
    let more = stand_more count (c.u16_at-count.result - (c.loop.counter + 1)) es e at s stand (read_rest s at e c.in_ok-entry.ensures.read) in
    let there = subst (λ n. StandBehind count (es ++ e ∷ []) (c.u16_at-count.result - (c.loop.counter + 1)) (at + (5 + n)) s) (sym name) more in
    record {
      long = ap length pushed ∙ (let l : length (es ++ e ∷ []) ≡ c.loop.counter + 1 = omega (arith, length-append es (e ∷ []), before.long) in l);
      size = omega (arith, name, before.size, ap (λ (x : List DirEntry). length (entries_bytes x)) pushed, bytes_more es e);
      within = omega (arith, name, c.in_ok-entry.ensures.within, ap length here, length-drop at s, before.within);
      each = subst (AllByRecursion IsEntry) (sym pushed) (each_more es e before.each c.in_ok-entry.ensures.is);
      stand = subst (λ xs. StandBehind count xs (c.u16_at-count.result - (c.loop.counter + 1)) (at + (5 + length c.as_slice.result.now)) s) (sym pushed) there;
    }

pub returns-clause-read : goal.returns-clause-read
returns-clause-read c =
    let s = c.args.bytes.now in
    let count = c.u16_at-count.result in
    let none_left : count - c.loop.counter ≡ 0 = omega (arith, c.loop-test.false) in
    stand_all count c.loop.value c.loop.at s (subst (λ n. StandBehind count c.loop.value n c.loop.at s) none_left c.loop.invariant.stand) c.u16_at-count.ensures
