-- What becomes of a document that is shown, by what became of its text.
use Rattle.fle_runner.proofs.Shows.{line_cut, line_lost, line_refused, line_wrote}
use Rattle.fle_runner.proofs.show.ShowerDocumentWriter.write_document.Goals as goal

pub returns-in-Written-clause-wrote : goal.returns-in-Written-clause-wrote
returns-in-Written-clause-wrote g c =
    line_wrote c.args.document.now.tree c.args.document.now.start _ _ _ c.requires.whole c.in-Written.ensures.shows.0
    c.in-Written.ensures.shows.1

pub returns-in-Ok-clause-wrote : goal.returns-in-Ok-clause-wrote
returns-in-Ok-clause-wrote g c =
    line_refused c.args.document.now.tree c.args.document.now.start c.in-Bad.at c.in-Ok.place _ _ _ c.requires.whole
    c.in-Bad.ensures.shows.0 c.in-Ok.ensures.place c.in-Bad.ensures.shows.1

pub returns-in-Err-clause-wrote : goal.returns-in-Err-clause-wrote
returns-in-Err-clause-wrote g c = line_lost c.args.document.now.tree _ _ _ c.in-Bad.ensures.shows.1

pub returns-in-Failed-clause-wrote : goal.returns-in-Failed-clause-wrote
returns-in-Failed-clause-wrote g c =
    line_cut c.args.document.now.tree c.args.document.now.start _ _ _ c.in-Failed.ensures.shows.1 c.requires.whole
    c.in-Failed.ensures.shows.0 c.in-Failed.ensures.shows.2
