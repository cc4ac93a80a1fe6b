use Rattle.std.proofs.Common.{rules, ◌≡◌, ◌<◌, ◌≤◌, [], ℕ, List, length, get_or, sym, subst, refl, arith}
use Rattle.std.specs.List.{flat_map, AllByRecursion}
use Rattle.std.proofs.lemmas.Grind.{common_steps}
use Rattle.std.proofs.lemmas.List.{get_or_default}
use Rattle.vx_base.specs.Paths.{FileName}
use Rattle.vx_sound.specs.FirstFault.{numbers}
use Rattle.vx_sound.specs.Checks.{Holds, entry_checks}
use Rattle.vx_sound.specs.Said.{entries_said}
use Rattle.vx_check.proofs.Going.{no_read, read_on, stops_at}
use Rattle.vx_check.specs.Directories.{AreNamesOf, AreBelow}
use Rattle.vx_check.proofs.Directories.{IsRead, read_none, read_more, read_all, listed_more, listed_all}
use Rattle.vx_check.proofs.directory.check_directory.Goals as goal

pub loop-k-init : goal.loop-k-init
loop-k-init g c = record {
  read = no_read (g.D.Sectors.view c.args.dev.now);
  below = subst (AreBelow (length c.args.used.now)) (sym c.new-targets.ensures.items) tt;
  listed = λ image known. c.new-listed.ensures.items;
  known = λ image known. subst (λ (ts : List ℕ). IsRead c.args.volume.now image c.args.ino c.args.blocks.now c.new-names.result ts 0) (sym c.new-targets.ensures.items)
      (read_none c.args.volume.now image c.args.ino c.args.blocks.now (c.requires.blocks image known) c.new-names.result (subst (λ (ns : List FileName). AreNamesOf ns []) (sym c.new-names.ensures) (λ q. refl)));
}

pub returns-in-Err-clause-finds : goal.returns-in-Err-clause-finds
returns-in-Err-clause-finds g c = λ strict image known.
    let less : c.loop-k.k < length c.args.blocks.now = omega arith in
    let before = c.check_block.ensures.read.seen image known in
    stops_at strict c.args.volume.now image (entry_checks c.args.ino) (length c.args.blocks.now) c.loop-k.k c.in-Err.stop less ((c.loop-k.invariant.known image before).all strict) (c.in-Err.ensures.finds strict image known)

pub loop-k-preserved : goal.loop-k-preserved
loop-k-preserved g c =
    let less : c.loop-k.k < length c.args.blocks.now = omega arith in
    let b = c.index-blocks-k.result in
    let is : get_or c.args.blocks.now c.loop-k.k 0 ≡ b = first_of (search (rules, get_or_default), grind (arith, common_steps, get_or_default)) in
    record {
      read = read_on (g.D.Sectors.view c.args.dev.now) (g.D.Sectors.view c.loop-k.dev) (g.D.Sectors.view c.check_block.new.dev) c.loop-k.invariant.read c.check_block.ensures.read;
      below = c.in-Ok.ensures.inside c.loop-k.invariant.below;
      listed = λ image known.
          listed_more (entries_said c.args.volume.now image) c.args.blocks.now c.loop-k.k b c.loop-k.listed.items c.push.new.self.items c.in-Ok.entries less is
          (c.loop-k.invariant.listed image (c.check_block.ensures.read.seen image known)) (c.in-Ok.ensures.entries image known) c.in-Ok-push.ensures.items;
      known = λ image known.
          let before = c.check_block.ensures.read.seen image known in
          read_more c.args.volume.now image c.args.ino c.args.blocks.now (c.requires.blocks image (c.loop-k.invariant.read.seen image before)) c.loop-k.k b c.loop-k.names c.loop-k.targets.items c.check_block.new.names c.check_block.new.targets.items less is
          (c.loop-k.invariant.known image before) (c.in-Ok.ensures.names image known) (c.in-Ok.ensures.targets image known) (λ strict. c.in-Ok.ensures.finds strict image known);
    }

pub returns-clause-finds : goal.returns-clause-finds
returns-clause-finds g c = λ strict image known.
    let end : c.loop-k.k ≡ length c.args.blocks.now = omega arith in
    subst (λ (n : ℕ). AllByRecursion (Holds strict c.args.volume.now image) (flat_map (entry_checks c.args.ino) (numbers 0 n))) end ((c.loop-k.invariant.known image known).all strict)

pub returns-clause-targets : goal.returns-clause-targets
returns-clause-targets g c = λ image known.
    let end : length c.args.blocks.now ≤ c.loop-k.k = omega arith in
    read_all c.args.volume.now image c.args.ino c.args.blocks.now (c.requires.blocks image (c.loop-k.invariant.read.seen image known)) c.loop-k.k c.loop-k.names c.loop-k.targets.items end (c.loop-k.invariant.known image known)

pub returns-clause-blocks : goal.returns-clause-blocks
returns-clause-blocks g c = λ image known.
    let end : length c.args.blocks.now ≤ c.loop-k.k = omega arith in
    listed_all (entries_said c.args.volume.now image) c.args.blocks.now c.loop-k.k c.loop-k.listed.items end (c.loop-k.invariant.listed image known)
