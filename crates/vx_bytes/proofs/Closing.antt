-- A close that gives reserved pages up touches no byte.
use Rattle.std.proofs.Common.{◌≡◌, ◌≢◌, ◌/◌, ◌%◌, ℕ, Bool, true, false, cond, List, Ok, refl, sym, ◌∙◌, ap, subst, inl, inr}
use Rattle.std.specs.Prelude.{Option, Some, None, ◌==◌, nat_le}
use Rattle.std.proofs.lemmas.Bool.{and_parts, cases_eq, eq-eqb, ne_eqb, both_ways}
use Rattle.vx_base.proofs.Maps.{at_key, at_other}
use Rattle.vx_base.specs.declared.kind.Kind.{Kind}
use Rattle.vx_base.specs.declared.kind.Kind.TheVariants.{Data, Reserved}
use Rattle.vx_extents.specs.Extents.{Mapped, mapped_at}
use Rattle.vx_space.specs.Space.{Space}
use Rattle.vx_space.specs.Leaving.{is_reserved_by, is_reserved_page, reserved_from, pages_but, space_but}
use Rattle.vx_model.specs.LaidOut.{IsLaidOut}
use Rattle.vx_model.specs.Layout.{space_at}
use Rattle.vx_model.specs.Outcome.{Maybe}
use Rattle.vx_model.specs.State.{State}
use Rattle.vx_model.specs.Tree.{File, IsFile}
use Rattle.vx_model.specs.Opened.{unreserved, with_reserve}
use Rattle.vx_bytes.specs.BlockUse.{GivesUp}
use Rattle.vx_bytes.specs.Events.{IsSameFile, IsUntouched}
use Rattle.vx_bytes.specs.Places.{half_of, sectors_of}
use Rattle.vx_bytes.specs.Promises.{file_in}
use Rattle.vx_bytes.proofs.FileCalls.{untouched_by, file_of, pick, pass, laid_spaces}
use Rattle.vx_bytes.proofs.GivingUp.{gives_gone}
use Rattle.vx_bytes.proofs.PagesGone.{kept_at}
use Rattle.vx_bytes.proofs.Using.{part_mapped}

-- a page that is reserved now has no sector, on the device neither
half_none : (o : Option (ℕ × Kind)) (i : ℕ) → ((b : ℕ) → o ≡ Some (b, Data) → ⊥) → half_of o i ≡ None
half_none None i none = refl
half_none (Some (b, Data)) i none = absurd (none b refl)
half_none (Some (b, Reserved)) i none = refl

gone_half : (o : Option (ℕ × Kind)) (t : Bool) (i : ℕ) → (t ≡ true → (b : ℕ) → o ≡ Some (b, Data) → ⊥) → half_of (cond t None o) i ≡ half_of o i
gone_half o true i none = sym (half_none o i (none refl))
gone_half o false i none = refl

gone_sector : (goes : ℕ → Bool) (pages : List Mapped) (p : ℕ) → ((q b : ℕ) → goes q ≡ true → mapped_at pages q ≡ Some (b, Data) → ⊥) → sectors_of (pages_but goes pages) p ≡ sectors_of pages p
unfolding sectors_of
gone_sector goes pages p none =
    ap (λ (o : Option (ℕ × Kind)). half_of o (p % 2)) (kept_at goes pages (p / 2)) ∙ gone_half (mapped_at pages (p / 2)) (goes (p / 2)) (p % 2) (λ on b at. none (p / 2) b on at)

data_unreserved : (pages : List Mapped) (from q b : ℕ) → mapped_at pages q ≡ Some (b, Data) → reserved_from from pages q ≡ true → ⊥
data_unreserved pages from q b at on =
    let reserved : is_reserved_page pages q ≡ true = (and_parts (is_reserved_page pages q) (nat_le from q) on).0 in
    let not_it : is_reserved_page pages q ≡ false = ap is_reserved_by at in
    both_ways (is_reserved_page pages q) not_it reserved

module _ (s : State) (place ino : ℕ) (f : File) (reserve from : ℕ) where
  abbrev closed : State
  closed = unreserved s place ino f reserve from

  abbrev x : Space
  x = space_at s.layout ino

  abbrev goes : ℕ → Bool
  goes = reserved_from from x.present

  abbrev g : File
  g = record f { attrs = with_reserve f.attrs reserve }

  space_is : space_at closed.layout ino ≡ space_but goes x
  space_is = pick (ino == ino) (space_but goes x) (space_at s.layout ino) (eq-eqb ino ino refl)

  itself : IsLaidOut s → file_in s ino ≡ Ok f → IsUntouched s closed ino
  itself laid found =
      let spaces = laid_spaces s laid ino in record {
        file = subst (λ (a : Maybe File). IsSameFile a (file_in closed ino)) (sym found) (subst (λ (a : Maybe File). IsSameFile (Ok f) a) (sym (file_of closed.tree.nodes ino (Some (IsFile g)) (at_key s.tree.nodes ino (IsFile g)))) refl);
        placed = λ p. ap (λ (y : Space). sectors_of y.present p) space_is ∙ gone_sector goes x.present p (λ q b on at. data_unreserved x.present from q b at on);
        sectors = λ p. ap (λ (y : Space). sectors_of y.settled p) space_is ∙ gone_sector goes x.settled p (λ q b on at. data_unreserved x.present from q b (part_mapped 0 x.settled x.present q b spaces.0 spaces.1 at) on);
        size = ap (λ (y : Space). y.size) space_is;
      }

  other_file : (n : ℕ) → n ≢ ino → IsUntouched s closed n
  other_file n other = untouched_by s closed n (at_other s.tree.nodes ino (IsFile g) n other) (pass (n == ino) (space_but goes x) (space_at s.layout n) (ne_eqb n ino other))

  pub close_untouched : IsLaidOut s → file_in s ino ≡ Ok f → (n : ℕ) → IsUntouched s closed n
  close_untouched laid found n = elim (cases_eq n ino) [
    | inl same ↦ subst (λ (k : ℕ). IsUntouched s closed k) (sym same) (itself laid found)
    | inr other ↦ other_file n other
  ]

  pub close_gives : GivesUp s closed place
  close_gives = gives_gone s closed place ino goes (λ n. refl) (λ b. refl)
