use Rattle.elfshow.specs.Question.{question}
use Rattle.elfshow.proofs.StreamCalls.{refused_call, written_call}
use Rattle.elfshow.proofs.stream.write_call.Goals as goal

pub returns-in-Ok : goal.returns-in-Ok
returns-in-Ok g c =
    written_call g.E.EndianParse.little (question c.args.call) c.args.stream.now c.load_call.new.stream _ _ c.load_call.result _ _ c.or_stop.result c.load_call.ensures c.in-Ok.is c.write_loaded.ensures.known c.write_loaded.ensures.text c.or_stop.ensures

pub returns-in-Err : goal.returns-in-Err
returns-in-Err g c =
    refused_call g.E.EndianParse.little (question c.args.call) c.args.stream.now c.load_call.new.stream _ _ c.load_call.result c.in-Err.error c.refuse.result c.load_call.ensures c.in-Err.is c.refuse.ensures
