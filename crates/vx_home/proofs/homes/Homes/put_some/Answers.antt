use Rattle.std.proofs.Common.{◌≡◌, ◌+◌, ◌-◌, ◌<◌, ℕ, List, length, sym, ◌∙◌, ap, subst}
use Rattle.std.specs.Prelude.{All, min, slice_range}
use Rattle.vx_layout.specs.LogForms.{AfterImage}
use Rattle.vx_dev.specs.Runs.{Ran, BrokeOff, puts}
use Rattle.vx_home.specs.Indexes.{Index, named, ArePlaces}
use Rattle.vx_home.proofs.HomeRuns.{on_err_any}
use Rattle.vx_home.proofs.Slices.{places_part, named_part, all_part}
use Rattle.vx_home.proofs.homes.Homes.put_some.Goals as goal

pub put_each-requires-clause-places : goal.put_each-requires-clause-places
put_each-requires-clause-places g c =
    let n : ℕ = length c.as_slice-2.result.now in
    let all : ArePlaces (length c.self.inside.images.items) c.self.inside.index.items = c.self.invariant.0.places in
    places_part n c.args.from (c.min-end.result - c.args.from) c.as_slice.result.now
    (subst (λ (es : Index). ArePlaces n es) (sym c.as_slice.ensures.value) (subst (λ (im : List (List ℕ)). ArePlaces (length im) c.self.inside.index.items) (sym c.as_slice-2.ensures.value) all))

pub put_each-requires-clause-inside : goal.put_each-requires-clause-inside
put_each-requires-clause-inside g c =
    let whole : named c.as_slice.result.now c.as_slice-2.result.now ≡ c.args.self.now =
    ap (λ (es : Index). named es c.as_slice-2.result.now) c.as_slice.ensures.value ∙ ap (named c.self.inside.index.items) c.as_slice-2.ensures.value ∙ c.self.view_is in
    let P : AfterImage → Type 0 = λ e. e.0 < (g.D.BlockDev.state c.args.dev.now).size in
    subst (All P) (sym (named_part c.as_slice-2.result.now c.args.from (c.min-end.result - c.args.from) c.as_slice.result.now))
    (all_part P c.args.from (c.min-end.result - c.args.from) (named c.as_slice.result.now c.as_slice-2.result.now) (subst (All P) (sym whole) c.requires.inside))

pub returns-in_err-put_each-clause-broke : goal.returns-in_err-put_each-clause-broke
returns-in_err-put_each-clause-broke g c =
    let whole : named c.as_slice.result.now c.as_slice-2.result.now ≡ c.args.self.now =
    ap (λ (es : Index). named es c.as_slice-2.result.now) c.as_slice.ensures.value ∙ ap (named c.self.inside.index.items) c.as_slice-2.ensures.value ∙ c.self.view_is in
    let end_is : c.min-end.result ≡ min (c.args.from + 8) (length c.args.self.now) = c.min-end.ensures ∙ ap (min (c.args.from + 8)) c.len-count.ensures.number in
    let part = named_part c.as_slice-2.result.now c.args.from (c.min-end.result - c.args.from) c.as_slice.result.now ∙ ap (λ (l : List AfterImage). slice_range l c.args.from c.min-end.result) whole ∙ ap (slice_range c.args.self.now c.args.from) end_is in
    on_err_any c.from_residual.result (subst (λ (l : List AfterImage). BrokeOff l (g.D.BlockDev.state c.args.dev.now) (g.D.BlockDev.state c.put_each.new.dev)) part c.in_err-put_each.ensures.broke)

pub returns-clause-ran : goal.returns-clause-ran
returns-clause-ran g c =
    let whole : named c.as_slice.result.now c.as_slice-2.result.now ≡ c.args.self.now =
    ap (λ (es : Index). named es c.as_slice-2.result.now) c.as_slice.ensures.value ∙ ap (named c.self.inside.index.items) c.as_slice-2.ensures.value ∙ c.self.view_is in
    let end_is : c.min-end.result ≡ min (c.args.from + 8) (length c.args.self.now) = c.min-end.ensures ∙ ap (min (c.args.from + 8)) c.len-count.ensures.number in
    let part = named_part c.as_slice-2.result.now c.args.from (c.min-end.result - c.args.from) c.as_slice.result.now ∙ ap (λ (l : List AfterImage). slice_range l c.args.from c.min-end.result) whole ∙ ap (slice_range c.args.self.now c.args.from) end_is in
    subst (λ (l : List AfterImage). Ran (puts l) (g.D.BlockDev.state c.args.dev.now) (g.D.BlockDev.state c.put_each.new.dev)) part c.in_ok-put_each.ensures.ran
