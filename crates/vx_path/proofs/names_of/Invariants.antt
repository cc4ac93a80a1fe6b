use Rattle.std.proofs.Common.{◌≡◌, map, take, true}
use Rattle.std.specs.List.{list_all}
use Rattle.vx_base.specs.Paths.{is_name}
use Rattle.vx_path.proofs.names_of.Given as goal

-- the parts so far are names
abbrev pub invariant-loop-part : goal.invariant-loop-part
invariant-loop-part l = record {
  names : l.names ≡ take l.part-index (map (λ part. part.now) l.parts);
  good : list_all is_name (take l.part-index (map (λ part. part.now) l.parts)) ≡ true;
}
