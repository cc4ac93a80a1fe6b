-- Files without bytes.
use Rattle.std.proofs.Common.{◌≡◌, Bool, true, false, ◌&&◌, ◌==◌, refl, sym, ap, ◌∙◌, arith}
use Rattle.std.specs.Prelude.{Option, Some, None, IfSome}
use Rattle.std.proofs.lemmas.Bool.{true≢false}
use Rattle.std.proofs.lemmas.Bool.Decides.{nat_tests}
use Rattle.vx_base.specs.declared.call.ExtAttrs.{ExtAttrs}
use Rattle.vx_base.specs.declared.inode.InodeValue.{InodeValue}
use Rattle.vx_base.specs.declared.kind.FileKind.{FileKind}
use Rattle.vx_base.specs.declared.kind.FileKind.TheVariants.{File, Directory}
use Rattle.vx_model.specs.Tree.{no_attrs}
use Rattle.vx_said.specs.Plain.{IsPlain, IsPlainIfFile}
use Rattle.vx_load.specs.Plain.{has_none, is_plain, is_plain_file}

both : (a b : Bool) → (a && b) ≡ true → (a ≡ true) × (b ≡ true)
both true b h = (refl, h)
both false b h = absurd (cc)

attrs_none : (a : ExtAttrs) → has_none a ≡ true → a ≡ no_attrs
attrs_none a h =
    let one = both (a.fixed == 0) ((a.reserve == 0) && (a.flags == 0)) h in
    let two = both (a.reserve == 0) (a.flags == 0) one.1 in
    let first : (a.fixed == 0) ≡ true = one.0 in
    let second : (a.reserve == 0) ≡ true = two.0 in
    let third : (a.flags == 0) ≡ true = two.1 in
    let fixed : a.fixed ≡ 0 = grind (arith, nat_tests) in
    let reserve : a.reserve ≡ 0 = grind (arith, nat_tests) in
    let flags : a.flags ≡ 0 = grind (arith, nat_tests) in
    λ i. record { fixed = fixed i; reserve = reserve i; flags = flags i }

plain_if_file : (k : FileKind) (i : InodeValue) → is_plain_file k i ≡ true → IsPlainIfFile k i
plain_if_file File i h =
    let one = both (i.extents == 0) ((i.inode.size == 0) && has_none i.inode.attrs) h in
    let two = both (i.inode.size == 0) (has_none i.inode.attrs) one.1 in
    let first : (i.extents == 0) ≡ true = one.0 in
    let second : (i.inode.size == 0) ≡ true = two.0 in
    record {
      extents = grind (arith, nat_tests);
      size = grind (arith, nat_tests);
      attrs = attrs_none i.inode.attrs two.1;
    }
plain_if_file Directory i h = tt

pub plain_slot : (o : Option InodeValue) → is_plain o ≡ true → IfSome o (λ i. IsPlainIfFile i.inode.kind i)
plain_slot None h = tt
plain_slot (Some i) h = plain_if_file i.inode.kind i h

-- a file with bytes
pub held : (k : FileKind) (i : InodeValue) → is_plain_file k i ≡ false → (k ≡ File) × (IsPlain i → ⊥)
held File i h = (
  refl,
  λ (p : IsPlain i).
      let all : is_plain_file File i ≡ true =
      ap (λ x. (x == 0) && ((i.inode.size == 0) && has_none i.inode.attrs)) p.extents ∙ ap (λ x. (x == 0) && has_none i.inode.attrs) p.size ∙ ap has_none p.attrs in
      true≢false (sym all ∙ h),
)
held Directory i h = absurd (cc)
