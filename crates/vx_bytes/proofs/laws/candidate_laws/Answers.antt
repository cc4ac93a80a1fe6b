use Rattle.vx_bytes.proofs.Exact.{stable_file, fsynced_file}
use Rattle.vx_bytes.proofs.laws.candidate_laws.Goals as goal

pub returns : goal.returns
returns c = record {
  stable = λ mode o h n place k t f bytes before within fixes each returned since candidates found. stable_file mode o h n place k bytes before within since t f fixes each returned candidates found;
  fsynced = fsynced_file;
}
