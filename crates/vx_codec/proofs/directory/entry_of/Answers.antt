use Rattle.std.proofs.Common.{◌≡◌, ◌+◌, ◌-◌, take, drop, get_or, ap, ◌∙◌, arith}
use Rattle.vx_codec.proofs.DirLaws.{short_entry, cut_entry, whole_entry}
use Rattle.vx_codec.proofs.directory.entry_of.Goals as goal

pub returns-then-bytes-lt-ENTRY_HEAD-clause-bad : goal.returns-then-bytes-lt-ENTRY_HEAD-clause-bad
returns-then-bytes-lt-ENTRY_HEAD-clause-bad c = λ _. short_entry c.args.bytes.now c.if-bytes-lt-ENTRY_HEAD.true

pub returns-then-bytes-end-clause-bad : goal.returns-then-bytes-end-clause-bad
returns-then-bytes-end-clause-bad c = λ _. cut_entry c.args.bytes.now c.if-bytes-lt-ENTRY_HEAD.false c.if-bytes-end.true

pub returns-clause-read : goal.returns-clause-read
returns-clause-read c =
    let s = c.args.bytes.now in
    let same : 5 + get_or s 4 0 - 5 ≡ get_or s 4 0 = omega arith in
    whole_entry s (record { ino = c.new.result; name = c.in_ok-name.name }) c.if-bytes-end.false (c.new.ensures ∙ c.u32_at.ensures) (c.in_ok-name.ensures ∙ ap (λ n. take n (drop 5 s)) same)
