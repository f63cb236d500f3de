use Rattle.publisher.proofs.RenderingLemmas.{same_reading}
use Rattle.publisher.proofs.laws.reads_depend_on_host_port_and_path.Goals as goal

pub returns : goal.returns
returns c = λ tree a b reads. same_reading tree a b reads.one reads.other reads.host reads.port reads.path
