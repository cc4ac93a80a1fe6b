use Rattle.std.proofs.Common.{rules, ◌≡◌, ℕ, List, [], Option, Some, None, refl, sym, ap, subst, ◌∙◌, arith}
use Rattle.std.proofs.lemmas.Grind.{common_steps}
use Rattle.std.proofs.lemmas.List.{get_or-set_same}
use Rattle.std.specs.Option.{option_copied}
use Rattle.vx_dev.specs.Tape.{Tape, now}
use Rattle.vx_check.specs.Parts.{Agrees}
use Rattle.vx_check.specs.Remembering.{seen_of}
use Rattle.vx_check.proofs.Laying.{read_value}
use Rattle.vx_check.proofs.Remembering.{agrees_before, agrees_after, shown_at}
use Rattle.vx_check.proofs.remembered.sector_of.Goals as goal

pub returns-in-Ok-keep-clause-bytes : goal.returns-in-Ok-keep-clause-bytes
returns-in-Ok-keep-clause-bytes g c = λ image agrees.
    let kept = c.args.kept.now in
    let s = c.args.s in
    let bytes = c.read.new.to in
    agrees s bytes (ap (λ (xs : List (Option (List ℕ))). seen_of xs s) c.in-Ok-keep.ensures.ok ∙ get_or-set_same kept s (Some bytes) None c.in-Ok-keep.ensures.inside)

pub returns-in-Ok-keep-clause-read : goal.returns-in-Ok-keep-clause-read
returns-in-Ok-keep-clause-read g c =
    let d = g.D.BlockDev.state c.args.dev.now in
    let kept = c.args.kept.now in
    let s = c.args.s in
    let bytes = c.read.new.to in
    let new : seen_of kept s ≡ None = sym c.find.ensures ∙ ap option_copied c.in_default.is in
    let ok = c.in-Ok-keep.ensures.ok in
    let value = λ (t : Tape) (told : d.told ≡ Some t) (none : d.doubt ≡ []). subst (λ (q : ℕ). now t q ≡ bytes) c.get.ensures (read_value d c.get.result bytes c.in-Ok.ensures.value t told none) in
    record {
      seen = λ image agrees. agrees_before kept s bytes image new (subst (λ (xs : List (Option (List ℕ))). Agrees (Some (seen_of xs)) image) ok agrees);
      shown = first_of (search rules, grind (arith, common_steps));
      right = λ image is agrees. subst (λ (xs : List (Option (List ℕ))). Agrees (Some (seen_of xs)) image) (sym ok) (agrees_after kept s bytes image (shown_at d.told d.doubt s bytes value image is) c.in-Ok-keep.ensures.inside agrees);
      size = c.in-Ok.ensures.size;
      deeds = first_of (search rules, grind (arith, common_steps));
      reference = refl {a = 0};
      faults = c.in-Ok.ensures.faults;
    }
