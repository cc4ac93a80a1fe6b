-- What stays where the blocks of one file change.
use Rattle.std.proofs.Common.{◌≢◌, ℕ, cond, List, [], Option, sym, ◌∙◌, ap}
use Rattle.std.proofs.lemmas.Bool.{ne_eqb}
use Rattle.vx_filemaps.specs.Files.{FileView}
use Rattle.vx_space.specs.Space.{Space, no_space}
use Rattle.vx_model.specs.Layout.{Layout, freed}
use Rattle.vx_model.proofs.Changing.{changed, elsewhere, IsSameAt}
use Rattle.vx_blockmaps.specs.BlockMaps.{IsMapsOf}
use Rattle.vx_blockmaps.specs.Elsewhere.{IsElsewhere}

still_of : (l k : Layout) (m : FileView) (n : ℕ) → IsSameAt l k n → IsMapsOf m l n → IsMapsOf m k n
still_of l k m n same is = record { space = is.space ∙ sym same.space; maps = is.maps ∙ sym same.maps }

pub still_elsewhere : (ino : ℕ) (l k : Layout) → ((n : ℕ) → n ≢ ino → IsSameAt l k n) → IsElsewhere ino l k
still_elsewhere ino l k same = record {
  directories = λ n ne. (same n ne).blocks;
  spaces = λ n ne. (same n ne).space;
  maps = λ n ne. (same n ne).maps;
  kept = λ m n ne is. still_of l k m n (same n ne) is;
}

pub changed_elsewhere : (l : Layout) (ino : ℕ) (x : Space) (maps : List ℕ) (pending : ℕ → Option ℕ) → IsElsewhere ino l (changed l ino x maps pending)
changed_elsewhere l ino x maps pending = still_elsewhere ino l (changed l ino x maps pending) (elsewhere l ino x maps pending)

pub freed_elsewhere : (l : Layout) (place ino : ℕ) → IsElsewhere ino l (freed l place ino)
freed_elsewhere l place ino =
    still_elsewhere ino l (freed l place ino) (λ n ne. record {
      blocks = ap (λ t. cond t [] (l.directories n)) (ne_eqb n ino ne);
      space = ap (λ t. cond t no_space (l.files n)) (ne_eqb n ino ne);
      maps = ap (λ t. cond t [] (l.maps n)) (ne_eqb n ino ne);
    })
