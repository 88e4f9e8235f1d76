use Rattle.lfs_layer_tests.proofs.tests.segments.written.Goals as goal

pub begin-requires-clause-ready : goal.begin-requires-clause-ready
begin-requires-clause-ready c = c.put-second.ensures.expects _ _
    (c.put-first.ensures.expects _ _ c.begin-summary.ensures.expects)
