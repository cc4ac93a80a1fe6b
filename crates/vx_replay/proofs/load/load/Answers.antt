use Rattle.vx_replay.proofs.load.load.Goals as goal
