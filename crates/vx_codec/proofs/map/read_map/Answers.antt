use Rattle.std.proofs.Common.{rules, ◌≡◌, sym, ap, subst, inl, arith, ◌∙◌, true, false}
use Rattle.std.specs.Str.{bytes_eq}
use Rattle.std.proofs.lemmas.Slice.Eq.{bytes_eq-Decides}
use Rattle.std.specs.List.{list_all}
use Rattle.vx_layout.specs.Inodes.{has_length}
use Rattle.vx_layout.specs.Maps.{MapBlock, map_bytes, IsMap}
use Rattle.vx_codec.proofs.MapLaws.{count_of, value_of, spelled_so, have_lengths}
use Rattle.vx_codec.proofs.map.read_map.Goals.{then-count-eq0-via-then-count-eq0, then-count-eq0-via-else-count-eq0+then-count}
use Rattle.vx_codec.proofs.map.read_map.Goals as goal

pub returns-then-count-eq0-clause-only : goal.returns-then-count-eq0-clause-only
returns-then-count-eq0-clause-only g c = λ v is spelled.
    let count = count_of g.row.N v c.args.block.now c.u32_at-count.result c.u32_at-count.ensures c.requires.high is spelled in
    elim c.then-count-eq0.branch [
      | then-count-eq0-via-then-count-eq0 w ↦ absurd (omega (arith, count, is.some, w.if-count-eq0.true))
      | then-count-eq0-via-else-count-eq0+then-count w ↦ absurd (omega (arith, count, is.most, w.if-count.true))
    ]

pub returns-then-not-have_lengths-clause-only : goal.returns-then-not-have_lengths-clause-only
returns-then-not-have_lengths-clause-only g c = λ v is spelled.
    let same : c.in_ok-value.value ≡ v = value_of g.row.N c.in_ok-value.value v c.args.block.now c.u32_at-count.result c.u32_at-count.ensures c.in_ok-value.ensures.read c.requires.high is spelled in
    let yes : list_all has_length c.extents.result.now ≡ true = ap (list_all has_length) (c.extents.ensures ∙ ap (λ (m : MapBlock). m.extents) same) ∙ have_lengths v.extents is.each in
    let no : c.have_lengths.result ≡ false = c.if-not-have_lengths.true in
    let is_so : c.have_lengths.result ≡ list_all has_length c.extents.result.now = c.have_lengths.ensures in
    absurd cc

pub is_spelling-requires : goal.is_spelling-requires
is_spelling-requires g c =
    (search rules, (c.requires.high, subst (λ n. IsMap n c.in_ok-value.value) c.told-block (c.in_ok-value.ensures.is (sym (ap (list_all has_length) c.extents.ensures) ∙ sym c.have_lengths.ensures ∙ c.if-not-have_lengths.false))))

pub returns-then-is_spelling-clause-found : goal.returns-then-is_spelling-clause-found
returns-then-is_spelling-clause-found g c = (
  subst (λ n. IsMap n c.in_ok-value.value) c.told-block (c.in_ok-value.ensures.is (sym (ap (list_all has_length) c.extents.ensures) ∙ sym c.have_lengths.ensures ∙ c.if-not-have_lengths.false)),
  sym ((bytes_eq-Decides (map_bytes g.row.N c.in_ok-value.value) c.args.block.now).0 (sym c.is_spelling.ensures ∙ c.if-is_spelling.true)),
)

pub returns-then-is_spelling-clause-only : goal.returns-then-is_spelling-clause-only
returns-then-is_spelling-clause-only g c = λ v is spelled.
    let same : c.in_ok-value.value ≡ v = value_of g.row.N c.in_ok-value.value v c.args.block.now c.u32_at-count.result c.u32_at-count.ensures c.in_ok-value.ensures.read c.requires.high is spelled in
    inl cc

pub returns-else-is_spelling-clause-only : goal.returns-else-is_spelling-clause-only
returns-else-is_spelling-clause-only g c = λ v is spelled.
    let same : c.in_ok-value.value ≡ v = value_of g.row.N c.in_ok-value.value v c.args.block.now c.u32_at-count.result c.u32_at-count.ensures c.in_ok-value.ensures.read c.requires.high is spelled in
    let yes : bytes_eq (map_bytes g.row.N c.in_ok-value.value) c.args.block.now ≡ true = spelled_so g.row.N c.in_ok-value.value v c.args.block.now same spelled in
    let no : c.is_spelling.result ≡ false = c.if-is_spelling.false in
    let is_so : c.is_spelling.result ≡ bytes_eq (map_bytes g.row.N c.in_ok-value.value) c.args.block.now = c.is_spelling.ensures in
    absurd cc
