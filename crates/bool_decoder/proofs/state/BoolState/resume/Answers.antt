use Rattle.bool_decoder.proofs.States.{resumes}
use Rattle.bool_decoder.proofs.state.BoolState.resume.Goals as goal

pub returns : goal.returns
returns c = record { is = resumes c.args.self }
