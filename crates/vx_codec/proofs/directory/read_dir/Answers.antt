use Rattle.std.proofs.Common.{◌≡◌, ◌∙◌, ap, inl, false, Err}
use Rattle.std.specs.Str.{bytes_eq}
use Rattle.vx_layout.specs.Dirs.{dir_bytes}
use Rattle.vx_codec.proofs.DirLaws.{read_is, dir_spelled_so, only_memory, not_bad}
use Rattle.vx_codec.proofs.directory.read_dir.Goals as goal

pub returns-in_err-value-clause-only : goal.returns-in_err-value-clause-only
returns-in_err-value-clause-only g c = λ v is spelled.
    only_memory c.from_residual.result c.in_err-value.field-0.0 v c.from_residual.ensures.1
    (λ bad. not_bad g.row.N v c.args.block.now is spelled (c.in_err-value.ensures.bad (ap (λ x. Err x) bad)))

pub returns-then-is_spelling-clause-only : goal.returns-then-is_spelling-clause-only
returns-then-is_spelling-clause-only g c = λ v is spelled.
    let same : c.in_ok-value.value ≡ v = read_is g.row.N c.in_ok-value.value v c.args.block.now c.in_ok-value.ensures.read is spelled in
    inl cc

pub returns-else-is_spelling-clause-only : goal.returns-else-is_spelling-clause-only
returns-else-is_spelling-clause-only g c = λ v is spelled.
    let same : c.in_ok-value.value ≡ v = read_is g.row.N c.in_ok-value.value v c.args.block.now c.in_ok-value.ensures.read is spelled in
    let yes = dir_spelled_so g.row.N c.as_slice.result.now v c.args.block.now (c.as_slice.ensures ∙ same) spelled in
    let no : c.is_spelling.result ≡ false = c.if-is_spelling.false in
    let is_so : c.is_spelling.result ≡ bytes_eq (dir_bytes g.row.N c.as_slice.result.now) c.args.block.now = c.is_spelling.ensures in
    absurd cc
