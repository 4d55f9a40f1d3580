use Rattle.c_parser.proofs.typedef_names.TypedefNames.after.Goals as goal

pub returns-in-Pointer : goal.returns-in-Pointer
returns-in-Pointer c = rw c.in-Pointer.is (c.point.ensures c.args.token)

pub returns-in_ok-open_declarator-in-OpenDeclarator :
    goal.returns-in_ok-open_declarator-in-OpenDeclarator
returns-in_ok-open_declarator-in-OpenDeclarator c = rw c.in-OpenDeclarator.is (c.in_ok-open_declarator-in-OpenDeclarator.ensures c.args.token)

pub returns-in-CloseDeclarator : goal.returns-in-CloseDeclarator
returns-in-CloseDeclarator c = rw c.in-CloseDeclarator.is (c.close_declarator.ensures c.args.token)

pub returns-in-CloseArray : goal.returns-in-CloseArray
returns-in-CloseArray c = rw c.in-CloseArray.is (c.close_array.ensures c.args.token)

pub returns-in_ok-close_parameters-in-CloseParameters :
    goal.returns-in_ok-close_parameters-in-CloseParameters
returns-in_ok-close_parameters-in-CloseParameters c = rw c.in-CloseParameters.is (c.in_ok-close_parameters-in-CloseParameters.ensures c.args.token)

pub returns-in-NextDeclarator : goal.returns-in-NextDeclarator
returns-in-NextDeclarator c = rw c.in-NextDeclarator.is (c.next_declarator.ensures c.args.token)

pub returns-in_ok-open_block-in-OpenBlock : goal.returns-in_ok-open_block-in-OpenBlock
returns-in_ok-open_block-in-OpenBlock c = rw c.in-OpenBlock.is (c.in_ok-open_block-in-OpenBlock.ensures c.args.token)

pub returns-in-CloseBlock : goal.returns-in-CloseBlock
returns-in-CloseBlock c = rw c.in-CloseBlock.is (c.close_block.ensures c.args.token)

pub returns-in_ok-open_specifier-in-OpenSpecifier :
    goal.returns-in_ok-open_specifier-in-OpenSpecifier
returns-in_ok-open_specifier-in-OpenSpecifier c = rw c.in-OpenSpecifier.is (c.in_ok-open_specifier-in-OpenSpecifier.ensures c.args.token)

pub returns-in_ok-await_braces-in-AwaitBraces : goal.returns-in_ok-await_braces-in-AwaitBraces
returns-in_ok-await_braces-in-AwaitBraces c = rw c.in-AwaitBraces.is (c.in_ok-await_braces-in-AwaitBraces.ensures c.args.token)
