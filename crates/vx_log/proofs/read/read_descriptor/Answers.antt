use Rattle.std.proofs.Common.{◌≡◌, true, false, length, sym, ap, ◌∙◌, subst}
use Rattle.std.specs.Int.{w32}
use Rattle.std.specs.List.{AllByRecursion}
use Rattle.std.specs.List.Sorted.{IsStrictlyIncreasing}
use Rattle.std.proofs.lemmas.Slice.Eq.{bytes_eq-Decides}
use Rattle.vx_layout.specs.Fields.{number_at}
use Rattle.vx_layout.specs.LogForms as forms
use Rattle.vx_layout.specs.LogForms.{IsNameable, numbers_at}
use Rattle.vx_log.proofs.ReadSectors.{all_low}
use Rattle.vx_log.proofs.read.read_descriptor.Goals.{else-are_names-via-then-are_names+else-eq, else-are_names-via-else-are_names}
use Rattle.vx_log.proofs.read.read_descriptor.Goals as goal

pub returns-else-are_names-clause-only : goal.returns-else-are_names-clause-only
returns-else-are_names-clause-only c = λ homes names is.
    let count : c.u32_at-count.result ≡ length homes =
    c.u32_at-count.ensures ∙ ap (number_at w32 4) is ∙ c.log_fields.ensures.count c.args.position homes names.few in
    let read : c.names_of-names.result ≡ homes =
    c.names_of-names.ensures ∙ (λ i. numbers_at (count i) 16 (is i)) ∙ c.log_fields.ensures.homes c.args.position homes (all_low c.args.sectors c.args.size homes names.each) in
    let rising : IsStrictlyIncreasing c.homes.result.now = subst IsStrictlyIncreasing (sym (c.homes.ensures ∙ read)) names.rising in
    let each : AllByRecursion (IsNameable c.args.sectors c.args.size) c.homes.result.now =
    subst (AllByRecursion (IsNameable c.args.sectors c.args.size)) (sym (c.homes.ensures ∙ read)) names.each in
    elim c.else-are_names.branch [
      | else-are_names-via-then-are_names+else-eq w ↦
          let same : w.descriptor_of.result ≡ c.args.sector.now =
          w.descriptor_of.ensures ∙ ap (forms.descriptor c.args.position) (w.homes-then-are_names.ensures ∙ read) ∙ sym is in
          absurd (let wrong : true ≡ false = sym ((bytes_eq-Decides w.descriptor_of.result c.args.sector.now).1 same) ∙ sym w.eq.ensures ∙ w.if-eq.false in cc)
      | else-are_names-via-else-are_names w ↦
          absurd (let wrong : true ≡ false = sym (c.are_names.ensures.only rising each) ∙ w.if-are_names.false in cc)
    ]
