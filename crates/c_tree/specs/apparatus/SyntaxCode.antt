-- How the logic stores the grammar's trees.
use Rattle.std.specs.Prelude.{◌≡◌, zero, suc, [], None, refl}
use Rattle.std.specs.Coded.{Coded}
use base.Stored.{Gv, gnil, gnum, gcons}
use Rattle.model_types.specs.apparatus.TypesCode.{one_to_one, put_bool, get_bool, bool_back, put_basic, get_basic, basic_back}
use Rattle.model_types.specs.apparatus.LeafCode.{put_binary, get_binary, binary_back, put_int, get_int, int_back, put_logic, get_logic, logic_back, put_place, get_place, put_side, get_side, side_back, put_span, get_span, put_step, get_step, step_back, put_text, get_text, text_back}
use Rattle.c_tree.specs.apparatus.SyntaxLeafCode.{put_function_word, get_function_word, function_word_back, put_maybe_name, get_maybe_name, maybe_name_back, put_maybe_text, get_maybe_text, maybe_text_back, put_name, get_name, name_back, put_pointers, get_pointers, pointers_back, put_prefix_op, get_prefix_op, prefix_op_back, put_qualifier, get_qualifier, qualifier_back, put_storage_word, get_storage_word, storage_word_back, put_type_word, get_type_word, type_word_back, put_typeof_word, get_typeof_word, typeof_word_back}
use Rattle.model_grammar.specs.SyntaxForms.{Expr, Identifier, Constant, Text, Truth, Nullptr, Parenthesized, CompoundLiteral, FunctionLiteral, Index, Call, Member, Arrow, Step, Unary, SizeofExpr, SizeofType, Alignof, Cast, Binary, Logic, Conditional, Assign, AssignBy, Comma, Exprs, no_exprs, more_exprs, MaybeExpr, no_expr, an_expr, TypeName, type_name, Spec, StorageSpec, FunctionSpec, TypeSpec, QualifierSpec, StructTag, Struct, EnumTag, Enum, TypedefName, TypeofExpr, TypeofType, Specs, no_specs, more_specs, MaybeSpecs, none_of_specs, some_specs, MemberDeclaration, MemberDeclarators, MemberAssertion, MemberDeclarations, no_members, more_members, Enumerator, enumerator, Enumerators, no_enumerators, more_enumerators, Declarator, Named, Unnamed, Grouped, Declarators, no_declarators, more_declarators, Suffix, ArraySuffix, FunctionSuffix, Suffixes, no_suffixes, more_suffixes, Parameter, parameter, Parameters, no_parameters, more_parameters, Initializer, Single, Braced, MaybeInitializer, no_initializer, an_initializer, Braces, braces, InitializerItem, item, InitializerItems, no_items, more_items, Designator, ElementDesignator, MemberDesignator, Designators, no_designators, more_designators, Declaration, SimpleDeclaration, AssertDeclaration, AttributeDeclaration, MaybeDeclaration, no_declaration, a_declaration, InitDeclarator, init_declarator, InitDeclarators, no_init_declarators, more_init_declarators, Assertion, asserted, Statement, ExpressionStatement, CompoundStatement, If, Switch, While, DoWhile, For, ForDeclaration, Break, Continue, Return, Defer, MaybeStatement, no_statement, a_statement, BlockItem, DeclarationItem, CaseLabel, DefaultLabel, StatementItem, BlockItems, no_block_items, more_block_items, Block, block, External, FunctionDefinition, ExternalDeclaration}

abbrev mutual
  pub put_expr : Expr → Gv
  put_expr (Identifier name) = gcons (gnum 0) (put_name name)
  put_expr (Constant value basic place) = gcons (gnum 1) (gcons (put_int value) (gcons (put_basic basic) (put_place place)))
  put_expr (Text bytes place) = gcons (gnum 2) (gcons (put_text bytes) (put_place place))
  put_expr (Truth value place) = gcons (gnum 3) (gcons (put_bool value) (put_place place))
  put_expr (Nullptr place) = gcons (gnum 4) (put_place place)
  put_expr (Parenthesized inner place) = gcons (gnum 5) (gcons (put_expr inner) (put_place place))
  put_expr (CompoundLiteral name values place) = gcons (gnum 6) (gcons (put_type_name name) (gcons (put_braces values) (put_place place)))
  put_expr (FunctionLiteral name body place) = gcons (gnum 7) (gcons (put_type_name name) (gcons (put_block body) (put_place place)))
  put_expr (Index array index place) = gcons (gnum 8) (gcons (put_expr array) (gcons (put_expr index) (put_place place)))
  put_expr (Call function arguments place) = gcons (gnum 9) (gcons (put_expr function) (gcons (put_exprs arguments) (put_place place)))
  put_expr (Member structure member place) = gcons (gnum 10) (gcons (put_expr structure) (gcons (put_name member) (put_place place)))
  put_expr (Arrow pointer member place) = gcons (gnum 11) (gcons (put_expr pointer) (gcons (put_name member) (put_place place)))
  put_expr (Step op side operand place) = gcons (gnum 12) (gcons (put_step op) (gcons (put_side side) (gcons (put_expr operand) (put_place place))))
  put_expr (Unary op operand place) = gcons (gnum 13) (gcons (put_prefix_op op) (gcons (put_expr operand) (put_place place)))
  put_expr (SizeofExpr operand place) = gcons (gnum 14) (gcons (put_expr operand) (put_place place))
  put_expr (SizeofType name place) = gcons (gnum 15) (gcons (put_type_name name) (put_place place))
  put_expr (Alignof name place) = gcons (gnum 16) (gcons (put_type_name name) (put_place place))
  put_expr (Cast name operand place) = gcons (gnum 17) (gcons (put_type_name name) (gcons (put_expr operand) (put_place place)))
  put_expr (Binary op left right place) = gcons (gnum 18) (gcons (put_binary op) (gcons (put_expr left) (gcons (put_expr right) (put_place place))))
  put_expr (Logic op left right place) = gcons (gnum 19) (gcons (put_logic op) (gcons (put_expr left) (gcons (put_expr right) (put_place place))))
  put_expr (Conditional condition first second place) = gcons (gnum 20) (gcons (put_expr condition) (gcons (put_expr first) (gcons (put_expr second) (put_place place))))
  put_expr (Assign left right place) = gcons (gnum 21) (gcons (put_expr left) (gcons (put_expr right) (put_place place)))
  put_expr (AssignBy op left right place) = gcons (gnum 22) (gcons (put_binary op) (gcons (put_expr left) (gcons (put_expr right) (put_place place))))
  put_expr (Comma first second place) = gcons (gnum 23) (gcons (put_expr first) (gcons (put_expr second) (put_place place)))

  pub put_exprs : Exprs → Gv
  put_exprs no_exprs = gnil
  put_exprs (more_exprs first others) = gcons (put_expr first) (put_exprs others)

  pub put_maybe_expr : MaybeExpr → Gv
  put_maybe_expr no_expr = gnil
  put_maybe_expr (an_expr expr) = gcons gnil (put_expr expr)

  pub put_type_name : TypeName → Gv
  put_type_name (type_name specs declarator) = gcons (put_specs specs) (put_declarator declarator)

  pub put_spec : Spec → Gv
  put_spec (StorageSpec word place) = gcons (gnum 0) (gcons (put_storage_word word) (put_place place))
  put_spec (FunctionSpec word place) = gcons (gnum 1) (gcons (put_function_word word) (put_place place))
  put_spec (TypeSpec word place) = gcons (gnum 2) (gcons (put_type_word word) (put_place place))
  put_spec (QualifierSpec qualifier) = gcons (gnum 3) (put_qualifier qualifier)
  put_spec (StructTag tag place) = gcons (gnum 4) (gcons (put_name tag) (put_place place))
  put_spec (Struct tag members place) = gcons (gnum 5) (gcons (put_maybe_name tag) (gcons (put_member_declarations members) (put_place place)))
  put_spec (EnumTag tag fixed place) = gcons (gnum 6) (gcons (put_name tag) (gcons (put_maybe_specs fixed) (put_place place)))
  put_spec (Enum tag fixed enumerators place) = gcons (gnum 7) (gcons (put_maybe_name tag) (gcons (put_maybe_specs fixed) (gcons (put_enumerators enumerators) (put_place place))))
  put_spec (TypedefName name) = gcons (gnum 8) (put_name name)
  put_spec (TypeofExpr word operand place) = gcons (gnum 9) (gcons (put_typeof_word word) (gcons (put_expr operand) (put_place place)))
  put_spec (TypeofType word name place) = gcons (gnum 10) (gcons (put_typeof_word word) (gcons (put_type_name name) (put_place place)))

  pub put_specs : Specs → Gv
  put_specs no_specs = gnil
  put_specs (more_specs first others) = gcons (put_spec first) (put_specs others)

  pub put_maybe_specs : MaybeSpecs → Gv
  put_maybe_specs none_of_specs = gnil
  put_maybe_specs (some_specs specs) = gcons gnil (put_specs specs)

  pub put_member_declaration : MemberDeclaration → Gv
  put_member_declaration (MemberDeclarators specs declarators) = gcons (gnum 0) (gcons (put_specs specs) (put_declarators declarators))
  put_member_declaration (MemberAssertion assertion) = gcons (gnum 1) (put_assertion assertion)

  pub put_member_declarations : MemberDeclarations → Gv
  put_member_declarations no_members = gnil
  put_member_declarations (more_members first others) = gcons (put_member_declaration first) (put_member_declarations others)

  pub put_enumerator : Enumerator → Gv
  put_enumerator (enumerator name value) = gcons (put_name name) (put_maybe_expr value)

  pub put_enumerators : Enumerators → Gv
  put_enumerators no_enumerators = gnil
  put_enumerators (more_enumerators first others) = gcons (put_enumerator first) (put_enumerators others)

  pub put_declarator : Declarator → Gv
  put_declarator (Named pointers name suffixes) = gcons (gnum 0) (gcons (put_pointers pointers) (gcons (put_name name) (put_suffixes suffixes)))
  put_declarator (Unnamed pointers suffixes) = gcons (gnum 1) (gcons (put_pointers pointers) (put_suffixes suffixes))
  put_declarator (Grouped pointers inner suffixes place) = gcons (gnum 2) (gcons (put_pointers pointers) (gcons (put_declarator inner) (gcons (put_suffixes suffixes) (put_place place))))

  pub put_declarators : Declarators → Gv
  put_declarators no_declarators = gnil
  put_declarators (more_declarators first others) = gcons (put_declarator first) (put_declarators others)

  pub put_suffix : Suffix → Gv
  put_suffix (ArraySuffix length place) = gcons (gnum 0) (gcons (put_maybe_expr length) (put_place place))
  put_suffix (FunctionSuffix parameters is_variadic place) = gcons (gnum 1) (gcons (put_parameters parameters) (gcons (put_bool is_variadic) (put_place place)))

  pub put_suffixes : Suffixes → Gv
  put_suffixes no_suffixes = gnil
  put_suffixes (more_suffixes first others) = gcons (put_suffix first) (put_suffixes others)

  pub put_parameter : Parameter → Gv
  put_parameter (parameter specs declarator first) = gcons (put_specs specs) (gcons (put_declarator declarator) (put_place first))

  pub put_parameters : Parameters → Gv
  put_parameters no_parameters = gnil
  put_parameters (more_parameters first others) = gcons (put_parameter first) (put_parameters others)

  pub put_initializer : Initializer → Gv
  put_initializer (Single value) = gcons (gnum 0) (put_expr value)
  put_initializer (Braced values) = gcons (gnum 1) (put_braces values)

  pub put_maybe_initializer : MaybeInitializer → Gv
  put_maybe_initializer no_initializer = gnil
  put_maybe_initializer (an_initializer initializer) = gcons gnil (put_initializer initializer)

  pub put_braces : Braces → Gv
  put_braces (braces items place) = gcons (put_initializer_items items) (put_place place)

  pub put_initializer_item : InitializerItem → Gv
  put_initializer_item (item designators value) = gcons (put_designators designators) (put_initializer value)

  pub put_initializer_items : InitializerItems → Gv
  put_initializer_items no_items = gnil
  put_initializer_items (more_items first others) = gcons (put_initializer_item first) (put_initializer_items others)

  pub put_designator : Designator → Gv
  put_designator (ElementDesignator index place) = gcons (gnum 0) (gcons (put_expr index) (put_place place))
  put_designator (MemberDesignator member place) = gcons (gnum 1) (gcons (put_name member) (put_place place))

  pub put_designators : Designators → Gv
  put_designators no_designators = gnil
  put_designators (more_designators first others) = gcons (put_designator first) (put_designators others)

  pub put_declaration : Declaration → Gv
  put_declaration (SimpleDeclaration specs declarators) = gcons (gnum 0) (gcons (put_specs specs) (put_init_declarators declarators))
  put_declaration (AssertDeclaration assertion) = gcons (gnum 1) (put_assertion assertion)
  put_declaration AttributeDeclaration = gcons (gnum 2) gnil

  pub put_maybe_declaration : MaybeDeclaration → Gv
  put_maybe_declaration no_declaration = gnil
  put_maybe_declaration (a_declaration declaration) = gcons gnil (put_declaration declaration)

  pub put_init_declarator : InitDeclarator → Gv
  put_init_declarator (init_declarator declarator initializer) = gcons (put_declarator declarator) (put_maybe_initializer initializer)

  pub put_init_declarators : InitDeclarators → Gv
  put_init_declarators no_init_declarators = gnil
  put_init_declarators (more_init_declarators first others) = gcons (put_init_declarator first) (put_init_declarators others)

  pub put_assertion : Assertion → Gv
  put_assertion (asserted condition message place) = gcons (put_expr condition) (gcons (put_maybe_text message) (put_place place))

  pub put_statement : Statement → Gv
  put_statement (ExpressionStatement value span) = gcons (gnum 0) (gcons (put_maybe_expr value) (put_span span))
  put_statement (CompoundStatement body span) = gcons (gnum 1) (gcons (put_block body) (put_span span))
  put_statement (If declaration condition first second span) = gcons (gnum 2) (gcons (put_maybe_declaration declaration) (gcons (put_expr condition) (gcons (put_statement first) (gcons (put_maybe_statement second) (put_span span)))))
  put_statement (Switch value body span) = gcons (gnum 3) (gcons (put_expr value) (gcons (put_statement body) (put_span span)))
  put_statement (While condition body span) = gcons (gnum 4) (gcons (put_expr condition) (gcons (put_statement body) (put_span span)))
  put_statement (DoWhile body condition span) = gcons (gnum 5) (gcons (put_statement body) (gcons (put_expr condition) (put_span span)))
  put_statement (For first condition step body span) = gcons (gnum 6) (gcons (put_maybe_expr first) (gcons (put_maybe_expr condition) (gcons (put_maybe_expr step) (gcons (put_statement body) (put_span span)))))
  put_statement (ForDeclaration declaration condition step body span) = gcons (gnum 7) (gcons (put_declaration declaration) (gcons (put_maybe_expr condition) (gcons (put_maybe_expr step) (gcons (put_statement body) (put_span span)))))
  put_statement (Break place span) = gcons (gnum 8) (gcons (put_place place) (put_span span))
  put_statement (Continue place span) = gcons (gnum 9) (gcons (put_place place) (put_span span))
  put_statement (Return value place span) = gcons (gnum 10) (gcons (put_maybe_expr value) (gcons (put_place place) (put_span span)))
  put_statement (Defer body place span) = gcons (gnum 11) (gcons (put_statement body) (gcons (put_place place) (put_span span)))

  pub put_maybe_statement : MaybeStatement → Gv
  put_maybe_statement no_statement = gnil
  put_maybe_statement (a_statement statement) = gcons gnil (put_statement statement)

  pub put_block_item : BlockItem → Gv
  put_block_item (DeclarationItem declaration) = gcons (gnum 0) (put_declaration declaration)
  put_block_item (CaseLabel value place) = gcons (gnum 1) (gcons (put_expr value) (put_place place))
  put_block_item (DefaultLabel place) = gcons (gnum 2) (put_place place)
  put_block_item (StatementItem statement) = gcons (gnum 3) (put_statement statement)

  pub put_block_items : BlockItems → Gv
  put_block_items no_block_items = gnil
  put_block_items (more_block_items first others) = gcons (put_block_item first) (put_block_items others)

  pub put_block : Block → Gv
  put_block (block items span) = gcons (put_block_items items) (put_span span)

abbrev mutual
  pub get_expr : Gv → Expr
  get_expr (gcons (gnum zero) a) = Identifier (get_name a)
  get_expr (gcons (gnum (suc zero)) (gcons a (gcons b c))) = Constant (get_int a) (get_basic b) (get_place c)
  get_expr (gcons (gnum (suc (suc zero))) (gcons a b)) = Text (get_text a) (get_place b)
  get_expr (gcons (gnum (suc (suc (suc zero)))) (gcons a b)) = Truth (get_bool a) (get_place b)
  get_expr (gcons (gnum (suc (suc (suc (suc zero))))) a) = Nullptr (get_place a)
  get_expr (gcons (gnum (suc (suc (suc (suc (suc zero)))))) (gcons a b)) = Parenthesized (get_expr a) (get_place b)
  get_expr (gcons (gnum (suc (suc (suc (suc (suc (suc zero))))))) (gcons a (gcons b c))) = CompoundLiteral (get_type_name a) (get_braces b) (get_place c)
  get_expr (gcons (gnum (suc (suc (suc (suc (suc (suc (suc zero)))))))) (gcons a (gcons b c))) = FunctionLiteral (get_type_name a) (get_block b) (get_place c)
  get_expr (gcons (gnum (suc (suc (suc (suc (suc (suc (suc (suc zero))))))))) (gcons a (gcons b c))) = Index (get_expr a) (get_expr b) (get_place c)
  get_expr (gcons (gnum (suc (suc (suc (suc (suc (suc (suc (suc (suc zero)))))))))) (gcons a (gcons b c))) = Call (get_expr a) (get_exprs b) (get_place c)
  get_expr (gcons (gnum (suc (suc (suc (suc (suc (suc (suc (suc (suc (suc zero))))))))))) (gcons a (gcons b c))) = Member (get_expr a) (get_name b) (get_place c)
  get_expr (gcons (gnum (suc (suc (suc (suc (suc (suc (suc (suc (suc (suc (suc zero)))))))))))) (gcons a (gcons b c))) = Arrow (get_expr a) (get_name b) (get_place c)
  get_expr (gcons (gnum (suc (suc (suc (suc (suc (suc (suc (suc (suc (suc (suc (suc zero))))))))))))) (gcons a (gcons b (gcons c d)))) = Step (get_step a) (get_side b) (get_expr c) (get_place d)
  get_expr (gcons (gnum (suc (suc (suc (suc (suc (suc (suc (suc (suc (suc (suc (suc (suc zero)))))))))))))) (gcons a (gcons b c))) = Unary (get_prefix_op a) (get_expr b) (get_place c)
  get_expr (gcons (gnum (suc (suc (suc (suc (suc (suc (suc (suc (suc (suc (suc (suc (suc (suc zero))))))))))))))) (gcons a b)) = SizeofExpr (get_expr a) (get_place b)
  get_expr (gcons (gnum (suc (suc (suc (suc (suc (suc (suc (suc (suc (suc (suc (suc (suc (suc (suc zero)))))))))))))))) (gcons a b)) = SizeofType (get_type_name a) (get_place b)
  get_expr (gcons (gnum (suc (suc (suc (suc (suc (suc (suc (suc (suc (suc (suc (suc (suc (suc (suc (suc zero))))))))))))))))) (gcons a b)) = Alignof (get_type_name a) (get_place b)
  get_expr (gcons (gnum (suc (suc (suc (suc (suc (suc (suc (suc (suc (suc (suc (suc (suc (suc (suc (suc (suc zero)))))))))))))))))) (gcons a (gcons b c))) = Cast (get_type_name a) (get_expr b) (get_place c)
  get_expr (gcons (gnum (suc (suc (suc (suc (suc (suc (suc (suc (suc (suc (suc (suc (suc (suc (suc (suc (suc (suc zero))))))))))))))))))) (gcons a (gcons b (gcons c d)))) = Binary (get_binary a) (get_expr b) (get_expr c) (get_place d)
  get_expr (gcons (gnum (suc (suc (suc (suc (suc (suc (suc (suc (suc (suc (suc (suc (suc (suc (suc (suc (suc (suc (suc zero)))))))))))))))))))) (gcons a (gcons b (gcons c d)))) = Logic (get_logic a) (get_expr b) (get_expr c) (get_place d)
  get_expr (gcons (gnum (suc (suc (suc (suc (suc (suc (suc (suc (suc (suc (suc (suc (suc (suc (suc (suc (suc (suc (suc (suc zero))))))))))))))))))))) (gcons a (gcons b (gcons c d)))) = Conditional (get_expr a) (get_expr b) (get_expr c) (get_place d)
  get_expr (gcons (gnum (suc (suc (suc (suc (suc (suc (suc (suc (suc (suc (suc (suc (suc (suc (suc (suc (suc (suc (suc (suc (suc zero)))))))))))))))))))))) (gcons a (gcons b c))) = Assign (get_expr a) (get_expr b) (get_place c)
  get_expr (gcons (gnum (suc (suc (suc (suc (suc (suc (suc (suc (suc (suc (suc (suc (suc (suc (suc (suc (suc (suc (suc (suc (suc (suc zero))))))))))))))))))))))) (gcons a (gcons b (gcons c d)))) = AssignBy (get_binary a) (get_expr b) (get_expr c) (get_place d)
  get_expr (gcons (gnum (suc (suc (suc (suc (suc (suc (suc (suc (suc (suc (suc (suc (suc (suc (suc (suc (suc (suc (suc (suc (suc (suc (suc zero)))))))))))))))))))))))) (gcons a (gcons b c))) = Comma (get_expr a) (get_expr b) (get_place c)
  get_expr _ = Nullptr (get_place gnil)

  pub get_exprs : Gv → Exprs
  get_exprs (gcons a b) = more_exprs (get_expr a) (get_exprs b)
  get_exprs _ = no_exprs

  pub get_maybe_expr : Gv → MaybeExpr
  get_maybe_expr (gcons nothing a) = an_expr (get_expr a)
  get_maybe_expr _ = no_expr

  pub get_type_name : Gv → TypeName
  get_type_name (gcons a b) = type_name (get_specs a) (get_declarator b)
  get_type_name _ = type_name no_specs (Unnamed [] no_suffixes)

  pub get_spec : Gv → Spec
  get_spec (gcons (gnum zero) (gcons a b)) = StorageSpec (get_storage_word a) (get_place b)
  get_spec (gcons (gnum (suc zero)) (gcons a b)) = FunctionSpec (get_function_word a) (get_place b)
  get_spec (gcons (gnum (suc (suc zero))) (gcons a b)) = TypeSpec (get_type_word a) (get_place b)
  get_spec (gcons (gnum (suc (suc (suc zero)))) a) = QualifierSpec (get_qualifier a)
  get_spec (gcons (gnum (suc (suc (suc (suc zero))))) (gcons a b)) = StructTag (get_name a) (get_place b)
  get_spec (gcons (gnum (suc (suc (suc (suc (suc zero)))))) (gcons a (gcons b c))) = Struct (get_maybe_name a) (get_member_declarations b) (get_place c)
  get_spec (gcons (gnum (suc (suc (suc (suc (suc (suc zero))))))) (gcons a (gcons b c))) = EnumTag (get_name a) (get_maybe_specs b) (get_place c)
  get_spec (gcons (gnum (suc (suc (suc (suc (suc (suc (suc zero)))))))) (gcons a (gcons b (gcons c d)))) = Enum (get_maybe_name a) (get_maybe_specs b) (get_enumerators c) (get_place d)
  get_spec (gcons (gnum (suc (suc (suc (suc (suc (suc (suc (suc zero))))))))) a) = TypedefName (get_name a)
  get_spec (gcons (gnum (suc (suc (suc (suc (suc (suc (suc (suc (suc zero)))))))))) (gcons a (gcons b c))) = TypeofExpr (get_typeof_word a) (get_expr b) (get_place c)
  get_spec (gcons (gnum (suc (suc (suc (suc (suc (suc (suc (suc (suc (suc zero))))))))))) (gcons a (gcons b c))) = TypeofType (get_typeof_word a) (get_type_name b) (get_place c)
  get_spec _ = StorageSpec (get_storage_word gnil) (get_place gnil)

  pub get_specs : Gv → Specs
  get_specs (gcons a b) = more_specs (get_spec a) (get_specs b)
  get_specs _ = no_specs

  pub get_maybe_specs : Gv → MaybeSpecs
  get_maybe_specs (gcons nothing a) = some_specs (get_specs a)
  get_maybe_specs _ = none_of_specs

  pub get_member_declaration : Gv → MemberDeclaration
  get_member_declaration (gcons (gnum zero) (gcons a b)) = MemberDeclarators (get_specs a) (get_declarators b)
  get_member_declaration (gcons (gnum (suc zero)) a) = MemberAssertion (get_assertion a)
  get_member_declaration _ = MemberDeclarators no_specs no_declarators

  pub get_member_declarations : Gv → MemberDeclarations
  get_member_declarations (gcons a b) = more_members (get_member_declaration a) (get_member_declarations b)
  get_member_declarations _ = no_members

  pub get_enumerator : Gv → Enumerator
  get_enumerator (gcons a b) = enumerator (get_name a) (get_maybe_expr b)
  get_enumerator _ = enumerator (get_name gnil) no_expr

  pub get_enumerators : Gv → Enumerators
  get_enumerators (gcons a b) = more_enumerators (get_enumerator a) (get_enumerators b)
  get_enumerators _ = no_enumerators

  pub get_declarator : Gv → Declarator
  get_declarator (gcons (gnum zero) (gcons a (gcons b c))) = Named (get_pointers a) (get_name b) (get_suffixes c)
  get_declarator (gcons (gnum (suc zero)) (gcons a b)) = Unnamed (get_pointers a) (get_suffixes b)
  get_declarator (gcons (gnum (suc (suc zero))) (gcons a (gcons b (gcons c d)))) = Grouped (get_pointers a) (get_declarator b) (get_suffixes c) (get_place d)
  get_declarator _ = Unnamed [] no_suffixes

  pub get_declarators : Gv → Declarators
  get_declarators (gcons a b) = more_declarators (get_declarator a) (get_declarators b)
  get_declarators _ = no_declarators

  pub get_suffix : Gv → Suffix
  get_suffix (gcons (gnum zero) (gcons a b)) = ArraySuffix (get_maybe_expr a) (get_place b)
  get_suffix (gcons (gnum (suc zero)) (gcons a (gcons b c))) = FunctionSuffix (get_parameters a) (get_bool b) (get_place c)
  get_suffix _ = ArraySuffix no_expr (get_place gnil)

  pub get_suffixes : Gv → Suffixes
  get_suffixes (gcons a b) = more_suffixes (get_suffix a) (get_suffixes b)
  get_suffixes _ = no_suffixes

  pub get_parameter : Gv → Parameter
  get_parameter (gcons a (gcons b c)) = parameter (get_specs a) (get_declarator b) (get_place c)
  get_parameter _ = parameter no_specs (Unnamed [] no_suffixes) (get_place gnil)

  pub get_parameters : Gv → Parameters
  get_parameters (gcons a b) = more_parameters (get_parameter a) (get_parameters b)
  get_parameters _ = no_parameters

  pub get_initializer : Gv → Initializer
  get_initializer (gcons (gnum zero) a) = Single (get_expr a)
  get_initializer (gcons (gnum (suc zero)) a) = Braced (get_braces a)
  get_initializer _ = Single (Nullptr (get_place gnil))

  pub get_maybe_initializer : Gv → MaybeInitializer
  get_maybe_initializer (gcons nothing a) = an_initializer (get_initializer a)
  get_maybe_initializer _ = no_initializer

  pub get_braces : Gv → Braces
  get_braces (gcons a b) = braces (get_initializer_items a) (get_place b)
  get_braces _ = braces no_items (get_place gnil)

  pub get_initializer_item : Gv → InitializerItem
  get_initializer_item (gcons a b) = item (get_designators a) (get_initializer b)
  get_initializer_item _ = item no_designators (Single (Nullptr (get_place gnil)))

  pub get_initializer_items : Gv → InitializerItems
  get_initializer_items (gcons a b) = more_items (get_initializer_item a) (get_initializer_items b)
  get_initializer_items _ = no_items

  pub get_designator : Gv → Designator
  get_designator (gcons (gnum zero) (gcons a b)) = ElementDesignator (get_expr a) (get_place b)
  get_designator (gcons (gnum (suc zero)) (gcons a b)) = MemberDesignator (get_name a) (get_place b)
  get_designator _ = MemberDesignator (get_name gnil) (get_place gnil)

  pub get_designators : Gv → Designators
  get_designators (gcons a b) = more_designators (get_designator a) (get_designators b)
  get_designators _ = no_designators

  pub get_declaration : Gv → Declaration
  get_declaration (gcons (gnum zero) (gcons a b)) = SimpleDeclaration (get_specs a) (get_init_declarators b)
  get_declaration (gcons (gnum (suc zero)) a) = AssertDeclaration (get_assertion a)
  get_declaration (gcons (gnum (suc (suc zero))) gnil) = AttributeDeclaration
  get_declaration _ = AttributeDeclaration

  pub get_maybe_declaration : Gv → MaybeDeclaration
  get_maybe_declaration (gcons nothing a) = a_declaration (get_declaration a)
  get_maybe_declaration _ = no_declaration

  pub get_init_declarator : Gv → InitDeclarator
  get_init_declarator (gcons a b) = init_declarator (get_declarator a) (get_maybe_initializer b)
  get_init_declarator _ = init_declarator (Unnamed [] no_suffixes) no_initializer

  pub get_init_declarators : Gv → InitDeclarators
  get_init_declarators (gcons a b) = more_init_declarators (get_init_declarator a) (get_init_declarators b)
  get_init_declarators _ = no_init_declarators

  pub get_assertion : Gv → Assertion
  get_assertion (gcons a (gcons b c)) = asserted (get_expr a) (get_maybe_text b) (get_place c)
  get_assertion _ = asserted (Nullptr (get_place gnil)) None (get_place gnil)

  pub get_statement : Gv → Statement
  get_statement (gcons (gnum zero) (gcons a b)) = ExpressionStatement (get_maybe_expr a) (get_span b)
  get_statement (gcons (gnum (suc zero)) (gcons a b)) = CompoundStatement (get_block a) (get_span b)
  get_statement (gcons (gnum (suc (suc zero))) (gcons a (gcons b (gcons c (gcons d e))))) = If (get_maybe_declaration a) (get_expr b) (get_statement c) (get_maybe_statement d) (get_span e)
  get_statement (gcons (gnum (suc (suc (suc zero)))) (gcons a (gcons b c))) = Switch (get_expr a) (get_statement b) (get_span c)
  get_statement (gcons (gnum (suc (suc (suc (suc zero))))) (gcons a (gcons b c))) = While (get_expr a) (get_statement b) (get_span c)
  get_statement (gcons (gnum (suc (suc (suc (suc (suc zero)))))) (gcons a (gcons b c))) = DoWhile (get_statement a) (get_expr b) (get_span c)
  get_statement (gcons (gnum (suc (suc (suc (suc (suc (suc zero))))))) (gcons a (gcons b (gcons c (gcons d e))))) = For (get_maybe_expr a) (get_maybe_expr b) (get_maybe_expr c) (get_statement d) (get_span e)
  get_statement (gcons (gnum (suc (suc (suc (suc (suc (suc (suc zero)))))))) (gcons a (gcons b (gcons c (gcons d e))))) = ForDeclaration (get_declaration a) (get_maybe_expr b) (get_maybe_expr c) (get_statement d) (get_span e)
  get_statement (gcons (gnum (suc (suc (suc (suc (suc (suc (suc (suc zero))))))))) (gcons a b)) = Break (get_place a) (get_span b)
  get_statement (gcons (gnum (suc (suc (suc (suc (suc (suc (suc (suc (suc zero)))))))))) (gcons a b)) = Continue (get_place a) (get_span b)
  get_statement (gcons (gnum (suc (suc (suc (suc (suc (suc (suc (suc (suc (suc zero))))))))))) (gcons a (gcons b c))) = Return (get_maybe_expr a) (get_place b) (get_span c)
  get_statement (gcons (gnum (suc (suc (suc (suc (suc (suc (suc (suc (suc (suc (suc zero)))))))))))) (gcons a (gcons b c))) = Defer (get_statement a) (get_place b) (get_span c)
  get_statement _ = Break (get_place gnil) (get_span gnil)

  pub get_maybe_statement : Gv → MaybeStatement
  get_maybe_statement (gcons nothing a) = a_statement (get_statement a)
  get_maybe_statement _ = no_statement

  pub get_block_item : Gv → BlockItem
  get_block_item (gcons (gnum zero) a) = DeclarationItem (get_declaration a)
  get_block_item (gcons (gnum (suc zero)) (gcons a b)) = CaseLabel (get_expr a) (get_place b)
  get_block_item (gcons (gnum (suc (suc zero))) a) = DefaultLabel (get_place a)
  get_block_item (gcons (gnum (suc (suc (suc zero)))) a) = StatementItem (get_statement a)
  get_block_item _ = DefaultLabel (get_place gnil)

  pub get_block_items : Gv → BlockItems
  get_block_items (gcons a b) = more_block_items (get_block_item a) (get_block_items b)
  get_block_items _ = no_block_items

  pub get_block : Gv → Block
  get_block (gcons a b) = block (get_block_items a) (get_span b)
  get_block _ = block no_block_items (get_span gnil)

mutual
  pub expr_back : (x : Expr) → get_expr (put_expr x) ≡ x
  expr_back (Identifier name) = λ i. Identifier (name_back name i)
  expr_back (Constant value basic place) = λ i. Constant (int_back value i) (basic_back basic i) place
  expr_back (Text bytes place) = λ i. Text (text_back bytes i) place
  expr_back (Truth value place) = λ i. Truth (bool_back value i) place
  expr_back (Nullptr place) = refl
  expr_back (Parenthesized inner place) = λ i. Parenthesized (expr_back inner i) place
  expr_back (CompoundLiteral name values place) = λ i. CompoundLiteral (type_name_back name i) (braces_back values i) place
  expr_back (FunctionLiteral name body place) = λ i. FunctionLiteral (type_name_back name i) (block_back body i) place
  expr_back (Index array index place) = λ i. Index (expr_back array i) (expr_back index i) place
  expr_back (Call function arguments place) = λ i. Call (expr_back function i) (exprs_back arguments i) place
  expr_back (Member structure member place) = λ i. Member (expr_back structure i) (name_back member i) place
  expr_back (Arrow pointer member place) = λ i. Arrow (expr_back pointer i) (name_back member i) place
  expr_back (Step op side operand place) = λ i. Step (step_back op i) (side_back side i) (expr_back operand i) place
  expr_back (Unary op operand place) = λ i. Unary (prefix_op_back op i) (expr_back operand i) place
  expr_back (SizeofExpr operand place) = λ i. SizeofExpr (expr_back operand i) place
  expr_back (SizeofType name place) = λ i. SizeofType (type_name_back name i) place
  expr_back (Alignof name place) = λ i. Alignof (type_name_back name i) place
  expr_back (Cast name operand place) = λ i. Cast (type_name_back name i) (expr_back operand i) place
  expr_back (Binary op left right place) = λ i. Binary (binary_back op i) (expr_back left i) (expr_back right i) place
  expr_back (Logic op left right place) = λ i. Logic (logic_back op i) (expr_back left i) (expr_back right i) place
  expr_back (Conditional condition first second place) = λ i. Conditional (expr_back condition i) (expr_back first i) (expr_back second i) place
  expr_back (Assign left right place) = λ i. Assign (expr_back left i) (expr_back right i) place
  expr_back (AssignBy op left right place) = λ i. AssignBy (binary_back op i) (expr_back left i) (expr_back right i) place
  expr_back (Comma first second place) = λ i. Comma (expr_back first i) (expr_back second i) place

  pub exprs_back : (x : Exprs) → get_exprs (put_exprs x) ≡ x
  exprs_back no_exprs = refl
  exprs_back (more_exprs first others) = λ i. more_exprs (expr_back first i) (exprs_back others i)

  pub maybe_expr_back : (x : MaybeExpr) → get_maybe_expr (put_maybe_expr x) ≡ x
  maybe_expr_back no_expr = refl
  maybe_expr_back (an_expr expr) = λ i. an_expr (expr_back expr i)

  pub type_name_back : (x : TypeName) → get_type_name (put_type_name x) ≡ x
  type_name_back (type_name specs declarator) = λ i. type_name (specs_back specs i) (declarator_back declarator i)

  pub spec_back : (x : Spec) → get_spec (put_spec x) ≡ x
  spec_back (StorageSpec word place) = λ i. StorageSpec (storage_word_back word i) place
  spec_back (FunctionSpec word place) = λ i. FunctionSpec (function_word_back word i) place
  spec_back (TypeSpec word place) = λ i. TypeSpec (type_word_back word i) place
  spec_back (QualifierSpec qualifier) = λ i. QualifierSpec (qualifier_back qualifier i)
  spec_back (StructTag tag place) = λ i. StructTag (name_back tag i) place
  spec_back (Struct tag members place) = λ i. Struct (maybe_name_back tag i) (member_declarations_back members i) place
  spec_back (EnumTag tag fixed place) = λ i. EnumTag (name_back tag i) (maybe_specs_back fixed i) place
  spec_back (Enum tag fixed enumerators place) = λ i. Enum (maybe_name_back tag i) (maybe_specs_back fixed i) (enumerators_back enumerators i) place
  spec_back (TypedefName name) = λ i. TypedefName (name_back name i)
  spec_back (TypeofExpr word operand place) = λ i. TypeofExpr (typeof_word_back word i) (expr_back operand i) place
  spec_back (TypeofType word name place) = λ i. TypeofType (typeof_word_back word i) (type_name_back name i) place

  pub specs_back : (x : Specs) → get_specs (put_specs x) ≡ x
  specs_back no_specs = refl
  specs_back (more_specs first others) = λ i. more_specs (spec_back first i) (specs_back others i)

  pub maybe_specs_back : (x : MaybeSpecs) → get_maybe_specs (put_maybe_specs x) ≡ x
  maybe_specs_back none_of_specs = refl
  maybe_specs_back (some_specs specs) = λ i. some_specs (specs_back specs i)

  pub member_declaration_back : (x : MemberDeclaration) → get_member_declaration (put_member_declaration x) ≡ x
  member_declaration_back (MemberDeclarators specs declarators) = λ i. MemberDeclarators (specs_back specs i) (declarators_back declarators i)
  member_declaration_back (MemberAssertion assertion) = λ i. MemberAssertion (assertion_back assertion i)

  pub member_declarations_back : (x : MemberDeclarations) → get_member_declarations (put_member_declarations x) ≡ x
  member_declarations_back no_members = refl
  member_declarations_back (more_members first others) = λ i. more_members (member_declaration_back first i) (member_declarations_back others i)

  pub enumerator_back : (x : Enumerator) → get_enumerator (put_enumerator x) ≡ x
  enumerator_back (enumerator name value) = λ i. enumerator (name_back name i) (maybe_expr_back value i)

  pub enumerators_back : (x : Enumerators) → get_enumerators (put_enumerators x) ≡ x
  enumerators_back no_enumerators = refl
  enumerators_back (more_enumerators first others) = λ i. more_enumerators (enumerator_back first i) (enumerators_back others i)

  pub declarator_back : (x : Declarator) → get_declarator (put_declarator x) ≡ x
  declarator_back (Named pointers name suffixes) = λ i. Named (pointers_back pointers i) (name_back name i) (suffixes_back suffixes i)
  declarator_back (Unnamed pointers suffixes) = λ i. Unnamed (pointers_back pointers i) (suffixes_back suffixes i)
  declarator_back (Grouped pointers inner suffixes place) = λ i. Grouped (pointers_back pointers i) (declarator_back inner i) (suffixes_back suffixes i) place

  pub declarators_back : (x : Declarators) → get_declarators (put_declarators x) ≡ x
  declarators_back no_declarators = refl
  declarators_back (more_declarators first others) = λ i. more_declarators (declarator_back first i) (declarators_back others i)

  pub suffix_back : (x : Suffix) → get_suffix (put_suffix x) ≡ x
  suffix_back (ArraySuffix length place) = λ i. ArraySuffix (maybe_expr_back length i) place
  suffix_back (FunctionSuffix parameters is_variadic place) = λ i. FunctionSuffix (parameters_back parameters i) (bool_back is_variadic i) place

  pub suffixes_back : (x : Suffixes) → get_suffixes (put_suffixes x) ≡ x
  suffixes_back no_suffixes = refl
  suffixes_back (more_suffixes first others) = λ i. more_suffixes (suffix_back first i) (suffixes_back others i)

  pub parameter_back : (x : Parameter) → get_parameter (put_parameter x) ≡ x
  parameter_back (parameter specs declarator first) = λ i. parameter (specs_back specs i) (declarator_back declarator i) first

  pub parameters_back : (x : Parameters) → get_parameters (put_parameters x) ≡ x
  parameters_back no_parameters = refl
  parameters_back (more_parameters first others) = λ i. more_parameters (parameter_back first i) (parameters_back others i)

  pub initializer_back : (x : Initializer) → get_initializer (put_initializer x) ≡ x
  initializer_back (Single value) = λ i. Single (expr_back value i)
  initializer_back (Braced values) = λ i. Braced (braces_back values i)

  pub maybe_initializer_back : (x : MaybeInitializer) → get_maybe_initializer (put_maybe_initializer x) ≡ x
  maybe_initializer_back no_initializer = refl
  maybe_initializer_back (an_initializer initializer) = λ i. an_initializer (initializer_back initializer i)

  pub braces_back : (x : Braces) → get_braces (put_braces x) ≡ x
  braces_back (braces items place) = λ i. braces (initializer_items_back items i) place

  pub initializer_item_back : (x : InitializerItem) → get_initializer_item (put_initializer_item x) ≡ x
  initializer_item_back (item designators value) = λ i. item (designators_back designators i) (initializer_back value i)

  pub initializer_items_back : (x : InitializerItems) → get_initializer_items (put_initializer_items x) ≡ x
  initializer_items_back no_items = refl
  initializer_items_back (more_items first others) = λ i. more_items (initializer_item_back first i) (initializer_items_back others i)

  pub designator_back : (x : Designator) → get_designator (put_designator x) ≡ x
  designator_back (ElementDesignator index place) = λ i. ElementDesignator (expr_back index i) place
  designator_back (MemberDesignator member place) = λ i. MemberDesignator (name_back member i) place

  pub designators_back : (x : Designators) → get_designators (put_designators x) ≡ x
  designators_back no_designators = refl
  designators_back (more_designators first others) = λ i. more_designators (designator_back first i) (designators_back others i)

  pub declaration_back : (x : Declaration) → get_declaration (put_declaration x) ≡ x
  declaration_back (SimpleDeclaration specs declarators) = λ i. SimpleDeclaration (specs_back specs i) (init_declarators_back declarators i)
  declaration_back (AssertDeclaration assertion) = λ i. AssertDeclaration (assertion_back assertion i)
  declaration_back AttributeDeclaration = refl

  pub maybe_declaration_back : (x : MaybeDeclaration) → get_maybe_declaration (put_maybe_declaration x) ≡ x
  maybe_declaration_back no_declaration = refl
  maybe_declaration_back (a_declaration declaration) = λ i. a_declaration (declaration_back declaration i)

  pub init_declarator_back : (x : InitDeclarator) → get_init_declarator (put_init_declarator x) ≡ x
  init_declarator_back (init_declarator declarator initializer) = λ i. init_declarator (declarator_back declarator i) (maybe_initializer_back initializer i)

  pub init_declarators_back : (x : InitDeclarators) → get_init_declarators (put_init_declarators x) ≡ x
  init_declarators_back no_init_declarators = refl
  init_declarators_back (more_init_declarators first others) = λ i. more_init_declarators (init_declarator_back first i) (init_declarators_back others i)

  pub assertion_back : (x : Assertion) → get_assertion (put_assertion x) ≡ x
  assertion_back (asserted condition message place) = λ i. asserted (expr_back condition i) (maybe_text_back message i) place

  pub statement_back : (x : Statement) → get_statement (put_statement x) ≡ x
  statement_back (ExpressionStatement value span) = λ i. ExpressionStatement (maybe_expr_back value i) span
  statement_back (CompoundStatement body span) = λ i. CompoundStatement (block_back body i) span
  statement_back (If declaration condition first second span) = λ i. If (maybe_declaration_back declaration i) (expr_back condition i) (statement_back first i) (maybe_statement_back second i) span
  statement_back (Switch value body span) = λ i. Switch (expr_back value i) (statement_back body i) span
  statement_back (While condition body span) = λ i. While (expr_back condition i) (statement_back body i) span
  statement_back (DoWhile body condition span) = λ i. DoWhile (statement_back body i) (expr_back condition i) span
  statement_back (For first condition step body span) = λ i. For (maybe_expr_back first i) (maybe_expr_back condition i) (maybe_expr_back step i) (statement_back body i) span
  statement_back (ForDeclaration declaration condition step body span) = λ i. ForDeclaration (declaration_back declaration i) (maybe_expr_back condition i) (maybe_expr_back step i) (statement_back body i) span
  statement_back (Break place span) = refl
  statement_back (Continue place span) = refl
  statement_back (Return value place span) = λ i. Return (maybe_expr_back value i) place span
  statement_back (Defer body place span) = λ i. Defer (statement_back body i) place span

  pub maybe_statement_back : (x : MaybeStatement) → get_maybe_statement (put_maybe_statement x) ≡ x
  maybe_statement_back no_statement = refl
  maybe_statement_back (a_statement statement) = λ i. a_statement (statement_back statement i)

  pub block_item_back : (x : BlockItem) → get_block_item (put_block_item x) ≡ x
  block_item_back (DeclarationItem declaration) = λ i. DeclarationItem (declaration_back declaration i)
  block_item_back (CaseLabel value place) = λ i. CaseLabel (expr_back value i) place
  block_item_back (DefaultLabel place) = refl
  block_item_back (StatementItem statement) = λ i. StatementItem (statement_back statement i)

  pub block_items_back : (x : BlockItems) → get_block_items (put_block_items x) ≡ x
  block_items_back no_block_items = refl
  block_items_back (more_block_items first others) = λ i. more_block_items (block_item_back first i) (block_items_back others i)

  pub block_back : (x : Block) → get_block (put_block x) ≡ x
  block_back (block items span) = λ i. block (block_items_back items i) span

abbrev pub put_external : External → Gv
put_external (FunctionDefinition specs declarator body) = gcons (gnum 0) (gcons (put_specs specs) (gcons (put_declarator declarator) (put_block body)))
put_external (ExternalDeclaration declaration) = gcons (gnum 1) (put_declaration declaration)

abbrev pub get_external : Gv → External
get_external (gcons (gnum zero) (gcons a (gcons b c))) = FunctionDefinition (get_specs a) (get_declarator b) (get_block c)
get_external (gcons (gnum (suc zero)) a) = ExternalDeclaration (get_declaration a)
get_external _ = ExternalDeclaration AttributeDeclaration

pub external_back : (x : External) → get_external (put_external x) ≡ x
external_back (FunctionDefinition specs declarator body) = λ i. FunctionDefinition (specs_back specs i) (declarator_back declarator i) (block_back body i)
external_back (ExternalDeclaration declaration) = λ i. ExternalDeclaration (declaration_back declaration i)

abbrev pub coded_expr : Coded Expr
coded_expr = record { code = put_expr; inj = one_to_one put_expr get_expr expr_back }

abbrev pub coded_type_name : Coded TypeName
coded_type_name = record { code = put_type_name; inj = one_to_one put_type_name get_type_name type_name_back }

abbrev pub coded_specs : Coded Specs
coded_specs = record { code = put_specs; inj = one_to_one put_specs get_specs specs_back }

abbrev pub coded_declarator : Coded Declarator
coded_declarator = record { code = put_declarator; inj = one_to_one put_declarator get_declarator declarator_back }

abbrev pub coded_initializer : Coded Initializer
coded_initializer = record { code = put_initializer; inj = one_to_one put_initializer get_initializer initializer_back }

abbrev pub coded_declaration : Coded Declaration
coded_declaration = record { code = put_declaration; inj = one_to_one put_declaration get_declaration declaration_back }

abbrev pub coded_statement : Coded Statement
coded_statement = record { code = put_statement; inj = one_to_one put_statement get_statement statement_back }

abbrev pub coded_external : Coded External
coded_external = record { code = put_external; inj = one_to_one put_external get_external external_back }
