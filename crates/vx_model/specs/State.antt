-- What a mount stands for at one moment, and what a call leaves.
use Rattle.std.specs.Prelude.{ℕ, Bool, ◌^◌, false, [], None, Ok, Err}
use Rattle.vx_base.specs.declared.reply.Reply.{Reply}
use Rattle.vx_base.specs.declared.reply.Reply.TheVariants as say
use Rattle.vx_layout.specs.declared.superblock.Super.{Super}
use Rattle.vx_space.specs.Space.{no_space}
use Rattle.vx_space.specs.Placing.{is_set}
use Rattle.vx_model.specs.Outcome.{Maybe}
use Rattle.vx_model.specs.Tree.{File, Tree, empty_root}
use Rattle.vx_model.specs.Layout.{Layout}

-- the most blocks that a directory has
abbrev pub directory_blocks : ℕ
directory_blocks = 64

-- the most bytes that a file has
abbrev pub most_bytes : ℕ
most_bytes = 2 ^ 26

-- a file that keeps no reservation on the device
abbrev pub is_unreserved : File → Bool
is_unreserved f = is_set 8 f.attrs

pub record State : Type 0 where
  pub tree : Tree
  pub layout : Layout

-- what a call leaves and answers
pub record Done : Type 0 where
  pub state : State
  pub reply : Reply

-- a call that is refused leaves everything as it was
abbrev pub settled : State → Maybe Done → Done
settled s (Ok done) = done
settled s (Err why) = record { state = s; reply = say.Refused why }

-- a new file system of these sizes, the most blocks that a directory may have, and the device's number of sectors
abbrev pub fresh_of : Super → ℕ → ℕ → State
fresh_of v directory_limit device_sectors = record {
  tree = empty_root;
  layout = record {
    log_blocks = v.log_blocks;
    units = v.units;
    device_sectors = device_sectors;
    directory_limit = directory_limit;
    directories = λ n. [];
    files = λ n. no_space;
    maps = λ n. [];
    pending = λ b. None;
  };
}

-- one of one unit, with a log of so many blocks
abbrev pub fresh : ℕ → ℕ → ℕ → State
fresh log_blocks = fresh_of (record { log_blocks = log_blocks; units = 1; clean = false })
