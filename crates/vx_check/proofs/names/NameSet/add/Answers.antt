use Rattle.std.proofs.Common.{rules, ◌≡◌, Bool, true, false, cond, List, ap, ◌∙◌, refl}
use Rattle.std.specs.Prelude.{◌||◌}
use Rattle.std.specs.Ordering.{is_eq, nat_cmp}
use Rattle.std.specs.Cmp.Lexicographic.{slice_cmp}
use Rattle.std.specs.Str.{bytes_eq}
use Rattle.std.proofs.lemmas.Map.Text.{is_eq-slice_cmp}
use Rattle.vx_base.specs.Paths.{FileName}
use Rattle.vx_check.specs.Directories.{has}
use Rattle.vx_check.proofs.names.NameSet.add.Goals as goal

or_is : (b c : Bool) → cond b true c ≡ (b || c)
or_is true c = refl
or_is false c = refl

pub returns-clause-has : goal.returns-clause-has
returns-clause-has c = λ q.
    let same : c.in_ok-clone.field-0 ≡ c.args.name.now = search rules in
    c.in_ok-new.ensures.updates.0 q ∙ or_is (is_eq (slice_cmp nat_cmp c.in_ok-clone.field-0 q)) (has c.self.inside.names.keys q) ∙ ap (λ (b : Bool). b || has c.self.inside.names.keys q) (is_eq-slice_cmp c.in_ok-clone.field-0 q)
    ∙ ap (λ (n : FileName). bytes_eq n q || has c.self.inside.names.keys q) same
    ∙ ap (λ (ns : List FileName). bytes_eq c.args.name.now q || has ns q) c.self.view_is
