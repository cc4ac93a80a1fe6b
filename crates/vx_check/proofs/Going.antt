-- Reads in a row, and checks in a row.
use Rattle.std.proofs.Common.{ℕ, ◌<◌, ◌++◌, Bool, List, refl, ◌∙◌, arith}
use Rattle.std.specs.List.{flat_map, AllByRecursion}
use Rattle.vx_layout.specs.Places.{Volume}
use Rattle.vx_sound.specs.FirstFault.{numbers}
use Rattle.vx_sound.specs.Said.{Image}
use Rattle.vx_sound.specs.Checks.{Check, Holds}
use Rattle.vx_sound.proofs.Faults as faults
use Rattle.vx_check.specs.declared.stop.Stop.{Stop}
use Rattle.vx_check.specs.declared.stop.Stop.TheVariants as stop
use Rattle.vx_check.specs.Parts.{View, HasRead, IsReadable, Stops}

pub no_read : (a : View) → HasRead a a
no_read a = record { seen = λ image h. h; shown = refl; right = λ image is h. h; size = refl; deeds = refl; reference = refl; faults = omega arith }

pub read_on : (a b c : View) → HasRead a b → HasRead b c → HasRead a c
read_on a b c p q = record {
  seen = λ image h. p.seen image (q.seen image h);
  shown = q.shown ∙ p.shown;
  right = λ image is h. q.right image (p.shown ∙ is) (p.right image is h);
  size = q.size ∙ p.size;
  deeds = q.deeds ∙ p.deeds;
  reference = q.reference ∙ p.reference;
  faults = let x = p.faults in let y = q.faults in omega arith;
}

pub still_readable : (v : Volume) (a b : View) → HasRead a b → IsReadable v a → IsReadable v b
still_readable v a b p r = record { volume = r.volume; block = r.block; fits = r.fits; there = let e = p.size in let t = r.there in omega arith }

module _ (strict : Bool) (v : Volume) (image : Image) where
  -- a fault among further checks, of lists that stand behind those that hold
  pub stops_left : (xs ys : List Check) (s : Stop) → Stops strict v image xs s → Stops strict v image (xs ++ ys) s
  stops_left xs ys (stop.BadMeta sector) h = record { check = h.check; first = faults.left (Holds strict v image) xs ys h.check h.first; sector_is = h.sector_is }
  stops_left xs ys stop.ReadFault h = tt
  stops_left xs ys stop.NoMemory h = tt

  pub stops_right : (xs ys : List Check) (s : Stop) → AllByRecursion (Holds strict v image) xs → Stops strict v image ys s → Stops strict v image (xs ++ ys) s
  stops_right xs ys (stop.BadMeta sector) all h = record { check = h.check; first = faults.right (Holds strict v image) xs ys h.check all h.first; sector_is = h.sector_is }
  stops_right xs ys stop.ReadFault all h = tt
  stops_right xs ys stop.NoMemory all h = tt

  pub stops_at : (f : ℕ → List Check) (n k : ℕ) (s : Stop) → k < n → AllByRecursion (Holds strict v image) (flat_map f (numbers 0 k)) → Stops strict v image (f k) s → Stops strict v image (flat_map f (numbers 0 n)) s
  stops_at f n k (stop.BadMeta sector) less all h = record { check = h.check; first = faults.stop_from_0 (Holds strict v image) f n k h.check less all h.first; sector_is = h.sector_is }
  stops_at f n k stop.ReadFault less all h = tt
  stops_at f n k stop.NoMemory less all h = tt
